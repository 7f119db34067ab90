-- `rows::fill` meets its contract. The loop's invariant: the elements passed are all x. Assumes nothing.
use mathlib.Core.Path.{◌≡◌}
use lib.ListN.{length, take, replicate}
use Rattle.rows.proofs.fill.Given as goal

abbrev pub invariant-loop-e : goal.invariant-loop-e
invariant-loop-e g l = (length l.v ≡ length l.initial.v) × (take l.e-index l.v ≡ replicate l.e-index l.x)
