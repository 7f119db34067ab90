-- The seeds of leaves within ±2 are within ±2: each is a leaf's unit vector. By recursion on the centres. Assumes nothing.
use mathlib.Core.List.{List}
use Prim.Native.Nat.{ℕ, zero, suc, ◌-◌, ◌≤◌}
use native.Mathlib.Omega.{arith}
use lib.Ieee.{Float}
use Rattle.rows.specs.Rows.{row_of}
use Rattle.vector.specs.Vectors.{unit_vector}
use Rattle.float.proofs.Bound.{Within}
use Rattle.float.proofs.Ranges.{All}
use Rattle.vector.proofs.Within.{all_append, all_row, row_length, unit_within}
use Rattle.kmeans_seeding.specs.Seeding.{seeds_up_to, seeds_of}

module _ (weights coords : List Float) (m d : ℕ) (hd : d ≤ 256) (hc : All (Within 2 1) coords) (generator : ℕ) where
  leaf_within : (i : ℕ) → All (Within 2 1) (unit_vector (row_of coords d i))
  leaf_within i = unit_within (row_of coords d i) (omega (arith, row_length coords d i)) (all_row (Within 2 1) coords d i hc)

  seeds_to : (n : ℕ) → All (Within 2 1) (seeds_up_to weights coords m d generator n).centers
  unfolding seeds_up_to
  seeds_to zero = leaf_within _
  seeds_to (suc n) = all_append (Within 2 1) (seeds_up_to weights coords m d generator n).centers _ (seeds_to n) (leaf_within _)

  pub seeds_within : (k : ℕ) → All (Within 2 1) (seeds_of weights coords m k d generator).centers
  seeds_within k = seeds_to (k - 1)
