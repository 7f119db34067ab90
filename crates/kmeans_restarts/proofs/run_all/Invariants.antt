-- `kmeans_restarts::run_all` meets its contract. The loop's invariant: after as many runs as its counter says, from 1 to
-- max restarts 1, the held area has what the definition holds after one restart less. Assumes nothing.
use Prim.Native.Nat.{◌≤◌, ◌-◌, max}
use Rattle.kmeans_restarts.specs.Runs.{Holds}
use Rattle.kmeans_restarts.proofs.Kept.{held_after}
use Rattle.kmeans_restarts.proofs.run_all.Given as goal

abbrev pub invariant-loop : goal.invariant-loop
invariant-loop l =
    (l.counter ≤ max l.restarts 1)
    × Holds (held_after l.fn.halves.held l.fn.rounds.most l.seed (l.counter - 1)) l.fn.halves.held l.halves.held l.counter l.h
