-- `mixture_softmax::greatest` meets its contract. The loop's invariant: the greatest so far is no NaN and, with what is left of the row,
-- gives the greatest of the whole row. Assumes nothing.
use mathlib.Core.Path.{◌≡◌}
use mathlib.Core.Bool.{true, false}
use lib.ListN.{drop}
use lib.Ieee.{inf, is_nan}
use Rattle.mixture_softmax.specs.Softmax.{greatest_from}
use Rattle.mixture_softmax.proofs.greatest.Given as goal

abbrev pub invariant-loop-x : goal.invariant-loop-x
invariant-loop-x l = (is_nan l.g ≡ false) × (greatest_from l.g (drop l.x-index l.row) ≡ greatest_from (inf true) l.row)
