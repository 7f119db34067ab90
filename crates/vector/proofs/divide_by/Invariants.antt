-- `vector::divide_by` meets its contract. The loop's invariant: the elements passed, then what is left of the row divided, are the whole row divided. Assumes
-- nothing.
use mathlib.Core.Path.{◌≡◌}
use mathlib.Core.List.{◌++◌}
use lib.ListN.{length, take, drop}
use Rattle.vector.specs.Vectors.{divided_by}
use Rattle.vector.proofs.divide_by.Given as goal

abbrev pub invariant-loop-e : goal.invariant-loop-e
invariant-loop-e l = (length l.row ≡ length l.initial.row) × (take l.e-index l.row ++ divided_by l.n (drop l.e-index l.row) ≡ divided_by l.n l.initial.row)
