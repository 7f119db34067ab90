-- `rows::copy_within` meets its contract. The loop's invariant: the array is the one at the start with the first j elements of the
-- later part pasted in. Assumes nothing.
use mathlib.Core.Path.{◌≡◌}
use lib.ListN.{drop}
use lib.Seq.{paste}
use Rattle.rows.proofs.copy_within.Given as goal

abbrev pub invariant-loop-j : goal.invariant-loop-j
invariant-loop-j g l = l.w ≡ paste l.fn.w l.to (drop l.from l.fn.w) l.j
