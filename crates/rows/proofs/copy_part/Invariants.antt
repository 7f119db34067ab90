-- `rows::copy_part` meets its contract. The loop's invariant: the array is the one at the start with the first j elements of the part
-- pasted in. Assumes nothing.
use mathlib.Core.Path.{◌≡◌}
use lib.ListN.{drop}
use lib.Seq.{paste}
use Rattle.rows.proofs.copy_part.Given as goal

abbrev pub invariant-loop-j : goal.invariant-loop-j
invariant-loop-j g l = l.to ≡ paste l.fn.to l.at (drop l.at l.fn.from) l.j
