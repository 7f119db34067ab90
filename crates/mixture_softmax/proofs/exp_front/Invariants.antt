-- `mixture_softmax::exp_front` meets its contract. The loop's invariant: the elements passed are replaced by their exponentials. Assumes
-- nothing.
use mathlib.Core.Path.{◌≡◌}
use Prim.Native.Nat.{◌≤◌}
use Rattle.mixture_softmax.proofs.Softmax.{exps_to}
use Rattle.mixture_softmax.proofs.exp_front.Given as goal

abbrev pub invariant-loop-j : goal.invariant-loop-j
invariant-loop-j l = (l.j ≤ l.n) × (l.e ≡ exps_to l.initial.e l.j)
