-- `mixture_softmax::log_softmax_rows` meets its contract. The loop's invariant: the rows of the first i leaves are their shares, what
-- follows is as it was, and the log-likelihood is that of these leaves. Assumes nothing.
use mathlib.Core.Path.{◌≡◌}
use mathlib.Core.List.{◌++◌}
use Prim.Native.Nat.{◌*◌, ◌≤◌}
use lib.ListN.{drop}
use Rattle.float.specs.Arithmetic.{plus_zero}
use Rattle.mixture_softmax.specs.Leaves.{shares_up_to, logs_up_to}
use Rattle.mixture_softmax.proofs.log_softmax_rows.Given as goal

abbrev pub invariant-loop-i : goal.invariant-loop-i
invariant-loop-i l =
    (l.i ≤ l.m) × (l.l ≡ logs_up_to l.k l.initial.rows l.weights plus_zero l.i)
    × (l.rows ≡ shares_up_to l.k l.initial.rows l.i ++ drop (l.i * l.k) l.initial.rows)
