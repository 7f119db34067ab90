-- `mixture_softmax::less_greatests` meets its contract. The loop's invariant: the first i rows of e are done, and what follows is as it
-- was. Assumes nothing.
use mathlib.Core.Path.{◌≡◌}
use mathlib.Core.List.{◌++◌}
use Prim.Native.Nat.{◌*◌}
use lib.ListN.{drop}
use Rattle.mixture_softmax.specs.Blocks.{from_greatests}
use Rattle.mixture_softmax.proofs.less_greatests.Given as goal

abbrev pub invariant-loop-i : goal.invariant-loop-i
invariant-loop-i l = l.e ≡ from_greatests l.k l.rows l.i ++ drop (l.i * l.k) l.initial.e
