-- The search for the best centre by blocks of centres, and what it asks. No definition of document 01 stands on this
-- file.
use Rattle.std.specs.Prelude.{◌≡◌, List, [], ◌∷◌, ℕ, suc, ◌+◌, ◌*◌, ◌≤◌, ◌<◌, Float}
use Rattle.rows.specs.Rows.{row_of}
use Rattle.rows.specs.Tabulate.{tabulate}
use Rattle.vector.specs.Vectors.{dot_of}
use Rattle.kmeans_nearest.specs.Nearest.{better_of}
use Rattle.pick.specs.declared.Best.{Best}

-- the dots with n centres from c on
abbrev pub row_dots : (x centers : List Float) (d c n : ℕ) → List Float
row_dots x centers d c n = tabulate (λ e. dot_of x (row_of centers d (c + e))) n

-- with the centres from c on, whose dots are given
abbrev pub with_dots : Best → ℕ → List Float → Best
with_dots b c [] = b
with_dots b c (v ∷ vs) = with_dots (better_of b c v) (suc c) vs

-- what the search for the best asks: k centres of d coordinates, at most 64 and 16,384 numbers
pub record Fit (numbers k d : ℕ) : Type 0 where
  pub some : 0 < k
  pub few : k ≤ 64
  pub small : k * d ≤ 16384
  pub long : numbers ≡ k * d
