-- `mixture_softmax::less_log_sums` meets its contract. The loop's invariant: the first i rows of e are done, what follows is as it
-- was, and the sum is theirs. Assumes nothing.
use mathlib.Core.Path.{◌≡◌}
use mathlib.Core.List.{◌++◌}
use Prim.Native.Nat.{◌*◌}
use lib.ListN.{drop}
use Rattle.mixture_softmax.specs.Blocks.{from_logs, logs_over}
use Rattle.mixture_softmax.proofs.less_log_sums.Given as goal

abbrev pub invariant-loop-i : goal.invariant-loop-i
invariant-loop-i l =
    (l.s ≡ logs_over l.k l.rows l.initial.e l.weights l.l l.i) × (l.e ≡ from_logs l.k l.rows l.initial.e l.i ++ drop (l.i * l.k) l.initial.e)
