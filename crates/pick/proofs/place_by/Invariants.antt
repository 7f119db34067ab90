-- `pick::place_by` meets its contract. The loop's invariant: `best` is the place held among the first i elements, and below i.
-- Assumes nothing.
use mathlib.Core.Path.{◌≡◌}
use mathlib.Core.Bool.{Bool}
use Prim.Native.Nat.{◌<◌, ◌≤◌, max}
use lib.ListN.{length}
use lib.Ieee.{Float}
use Rattle.pick.specs.Places.{Tests, place_up_to}
use Rattle.pick.proofs.place_by.Given as goal

abbrev pub invariant-loop-i : goal.invariant-loop-i
invariant-loop-i g l =
    (l.i ≤ max (length l.v) 1) × (l.best < l.i)
    × ((test : Float → Float → Bool) → Tests (λ x y t. g.F.Fn.post l.passes (x, (y, tt)) t) test → l.best ≡ place_up_to test l.v l.i)
