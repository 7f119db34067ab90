-- The sums of the groups within bounds: weights up to 2^40 and coordinates within ±2 sum up to 2^41 a leaf, of at most 4,096 leaves to
-- 2^53; and a centre by such a sum lies within ±2. By recursion on the leaves. Assumes nothing.
use mathlib.Core.Path.{◌≡◌, subst}
use mathlib.Core.List.{List}
use Prim.Native.Nat.{ℕ, zero, suc, ◌+◌, ◌*◌, ◌≤◌}
use native.Mathlib.Omega.{arith}
use lib.Dec.{lit≤}
use lib.ListN.{length, get_or}
use lib.Ieee.{Float, nan}
use Rattle.float.specs.Arithmetic.{plus_zero}
use Rattle.rows.specs.Rows.{row_of}
use Rattle.vector.specs.Vectors.{add_scaled}
use Rattle.float.proofs.Bound.{Within}
use Rattle.float.proofs.Ranges.{All}
use Rattle.vector.proofs.Within.{all_put, all_row, all_get, all_same, all_more, row_length, add_scaled_within, normal_within}
use Rattle.kmeans_sums.specs.Sums.{sums_up_to, center_by}

module _ (weights coords : List Float) (labels : List ℕ) (k d : ℕ) (hw : All (Within 1099511627776 1) weights)
    (hc : All (Within 2 1) coords) where
  sums_to : (i : ℕ) → i ≤ length weights → i ≤ 4096 → All (Within (i * 2199023255552) 1) (sums_up_to weights coords labels k d i)
  unfolding sums_up_to
  sums_to zero l g = all_same (Within 0 1) (k * d) plus_zero (lit≤ tt)
  sums_to (suc i) l g =
      let C : ℕ = 2199023255552 in
      let s = sums_up_to weights coords labels k d i in
      let c = get_or labels i 0 in
      let w = get_or weights i nan in
      let h = sums_to i (omega arith) (omega arith) in
      let e : i * C + C ≡ suc i * C = omega arith in
      subst (λ (z : ℕ). All (Within z 1) (sums_up_to weights coords labels k d (suc i))) e
      (all_put (Within (i * C + C) 1) s (c * d) d (add_scaled w (row_of s d c) (row_of coords d i))
      (all_more (i * C) (i * C + C) 1 s (omega arith) h)
      (add_scaled_within (i * C) w (row_of s d c) (row_of coords d i) (omega arith)
      (all_get (Within 1099511627776 1) weights i hw (omega arith))
      (all_row (Within (i * C) 1) s d c h) (all_row (Within 2 1) coords d i hc)))

  pub sums_within : (m : ℕ) → m ≤ length weights → m ≤ 4096 → All (Within 9007199254740992 1) (sums_up_to weights coords labels k d m)
  sums_within m l g = all_more (m * 2199023255552) 9007199254740992 1 (sums_up_to weights coords labels k d m) (omega arith) (sums_to m l g)

-- the centre of group c
pub center_within : (sums centers : List Float) (d c : ℕ) → d ≤ 256 → All (Within 9007199254740992 1) sums → All (Within 2 1) centers
    → All (Within 2 1) (center_by (row_of sums d c) (row_of centers d c))
center_within sums centers d c l h o =
    normal_within (row_of sums d c) (row_of centers d c) (omega (arith, row_length sums d c)) (all_row (Within 9007199254740992 1) sums d c h)
    (all_row (Within 2 1) centers d c o)
