-- Document 01, 'Spherical k-means': the sums, counts and norms of the groups, and a centre by its sum. Definitions
-- only.
use Rattle.std.specs.Prelude.{List, [], ◌∷◌, ◌++◌, cond, ℕ, zero, suc, ◌+◌, ◌*◌, get_or, set, replicate, Float}
use Rattle.std.specs.Float.{nan}
use Rattle.std.specs.Float.Ieee.{lt}
use Rattle.float.specs.Arithmetic.{plus_zero}
use Rattle.rows.specs.Rows.{row_of, put_part}
use Rattle.vector.specs.Vectors.{norm_of, divided_by, add_scaled}

-- the norms of the first n rows of d
module _ (rows : List Float) (d : ℕ) where
  unfoldable pub norms_up_to : (n : ℕ) → List Float
  norms_up_to zero = []
  norms_up_to (suc i) = norms_up_to i ++ (norm_of (row_of rows d i) ∷ [])

-- ---- sums and counts of the groups, after the first n leaves
abbrev pub add_leaf : (sums : List Float) (d c : ℕ) → Float → List Float → List Float
add_leaf sums d c w x = put_part sums (c * d) d (add_scaled w (row_of sums d c) x)

module _ (weights coords : List Float) (labels : List ℕ) (k d : ℕ) where
  unfoldable pub sums_up_to : (n : ℕ) → List Float
  sums_up_to zero = replicate (k * d) plus_zero
  sums_up_to (suc i) = add_leaf (sums_up_to i) d (get_or labels i 0) (get_or weights i nan) (row_of coords d i)

abbrev pub count_one : List ℕ → ℕ → List ℕ
count_one counts c = set counts c (get_or counts c 0 + 1)

module _ (labels : List ℕ) (k : ℕ) where
  unfoldable pub counts_up_to : (n : ℕ) → List ℕ
  counts_up_to zero = replicate k 0
  counts_up_to (suc i) = count_one (counts_up_to i) (get_or labels i 0)

-- a group's centre: its sum over the sum's norm, where that is above 0; else the old one
abbrev pub center_by : (sum old : List Float) → List Float
center_by sum old = cond (lt plus_zero (norm_of sum)) (divided_by (norm_of sum) sum) old
