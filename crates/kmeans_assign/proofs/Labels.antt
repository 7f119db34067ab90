-- A label below k stored leaves the others below k. By recursion on the list. Assumes nothing.
use mathlib.Core.List.{List, [], ◌∷◌}
use Prim.Native.Nat.{ℕ, zero, suc, ◌<◌}
use lib.ListN.{get_or, set}

pub set_below : (l : List ℕ) (i j v k : ℕ) → v < k → get_or l j 0 < k → get_or (set l i v) j 0 < k
set_below [] i j v k h g = g
set_below (x ∷ l) zero zero v k h g = h
set_below (x ∷ l) zero (suc j) v k h g = g
set_below (x ∷ l) (suc i) zero v k h g = g
set_below (x ∷ l) (suc i) (suc j) v k h g = set_below l i j v k h g
