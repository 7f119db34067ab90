-- Document 01, 'Spherical k-means': what a run of spherical k-means holds from round to round. Definitions only.
use Rattle.std.specs.Prelude.{List, ℕ, Float}

-- ---- the state: centres row by row, a leaf's bounds, how well it is served, each centre's drift, and the labels
pub record State : Type 0 where
  pub centers : List Float
  pub scale : List Float
  pub low : List Float
  pub high : List Float
  pub served : List Float
  pub drift : List Float
  pub labels : List ℕ
