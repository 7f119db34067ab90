-- `rows::copy` meets its contract. The loop's invariant: the elements passed are those of `from`. Assumes nothing.
use mathlib.Core.Path.{◌≡◌}
use lib.ListN.{length, take}
use Rattle.rows.proofs.copy.Given as goal

abbrev pub invariant-loop-j : goal.invariant-loop-j
invariant-loop-j g l = (length l.to ≡ length l.from) × (take l.j l.to ≡ take l.j l.from)
