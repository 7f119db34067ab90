-- `kmeans_lloyd::lloyd` meets its contract. The loop's invariant: the definition's run from the state and counts as they are,
-- with the rounds that are left, ends as the whole run does (`GoesOn`); the counts are small. Assumes nothing.
use Prim.Native.Nat.{◌-◌}
use Rattle.kmeans_layout.specs.Areas.{state_of, Same}
use Rattle.kmeans_lloyd.specs.Runs.{rounds_in}
use Rattle.kmeans_lloyd.proofs.Rounds.{Few, GoesOn}
use Rattle.kmeans_lloyd.proofs.lloyd.Given as goal

abbrev pub invariant-loop-it : goal.invariant-loop-it
invariant-loop-it l =
    let a = l.fn.area in
    let n = l.fn.rounds.most in
    Same a l.area × Few l.it l.c
    × GoesOn a.leaves.weights.now a.leaves.coords.now a.shape.m a.shape.k a.shape.d (rounds_in a n) (n - l.it) l.it
    (state_of l.area) l.c
