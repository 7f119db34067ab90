-- `pick::pick_at` meets its contract. The loop's invariant: the pick from what is left of the weights, with what is left of t, is the whole
-- pick. Assumes nothing.
use mathlib.Core.Path.{◌≡◌}
use lib.ListN.{drop}
use Rattle.pick.specs.Pick.{pick_from}
use Rattle.pick.proofs.pick_at.Given as goal

abbrev pub invariant-loop-i : goal.invariant-loop-i
invariant-loop-i l = pick_from l.t l.i (drop l.i l.w) ≡ pick_from l.start 0 l.w
