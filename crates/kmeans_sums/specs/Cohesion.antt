-- Document 01, 'Spherical k-means': cohesion, the norms of the groups' sums added from +0. Definitions only.
use Rattle.std.specs.Prelude.{List, ℕ, Float}
use Rattle.float.specs.Arithmetic.{plus_zero, sum_from}
use Rattle.kmeans_sums.specs.Sums.{norms_up_to, sums_up_to}

unfoldable pub cohesion_of : (weights coords : List Float) (labels : List ℕ) (m k d : ℕ) → Float
cohesion_of weights coords labels m k d = sum_from plus_zero (norms_up_to (sums_up_to weights coords labels k d m) d k)
