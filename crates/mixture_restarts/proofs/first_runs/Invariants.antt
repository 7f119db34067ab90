-- `mixture_restarts::first_runs` meets its contract. The loop's invariant: after t runs the store has what the definition
-- holds after t − 1 more than the first. Assumes nothing.
use Prim.Native.Nat.{◌-◌}
use Rattle.mixture_restarts.specs.Kept.{runs_in, Holds}
use Rattle.mixture_restarts.proofs.first_runs.Given as goal

abbrev pub invariant-loop-t : goal.invariant-loop-t
invariant-loop-t l = Holds (runs_in l.fn.halves.free l.s (l.t - 1)) l.fn.halves.free l.halves.free l.halves.held l.t l.h
