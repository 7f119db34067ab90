-- Document 01, 'Spherical k-means': a leaf's best centre, the first of equals, with its dot and the next best dot.
-- Definitions only.
use Rattle.std.specs.Prelude.{List, true, ℕ, zero, suc, Float}
use Rattle.std.specs.Float.{inf}
use Rattle.rows.specs.Rows.{row_of}
use Rattle.vector.specs.Vectors.{dot_of}
use Rattle.pick.specs.Places.{above, best_with}
use Rattle.pick.specs.declared.Best.{Best}

-- with centre c, whose dot is v
abbrev pub better_of : Best → ℕ → Float → Best
better_of b c v = best_with above b c v

-- of the centres 0 to c, for leaf x
module _ (x centers : List Float) (d : ℕ) where
  unfoldable pub best_to : (c : ℕ) → Best
  best_to zero = record { index = 0; value = dot_of x (row_of centers d 0); next = inf true }
  best_to (suc c) = better_of (best_to c) (suc c) (dot_of x (row_of centers d (suc c)))
