-- `kmeans_lloyd::run` meets its contract: seeds, start, rounds and cohesion, each by what it ensures. Assumes nothing.
use Rattle.kmeans_lloyd.proofs.Runs.{run_done}
use Rattle.kmeans_lloyd.proofs.run.Goals as goal

pub returns-clause-run_done : goal.returns-clause-run_done
returns-clause-run_done c =
    let a = c.args.area.now in
    let seeded = c.seed-next.ensures in
    let started = c.start.ensures in
    let rounds = c.lloyd-c.ensures in
    let end = c.cohesion_of-cohesion.ensures in
    let e = rw (started.same.0, started.same.1) at rounds.done in
    let v = rw (rounds.same.0, rounds.same.1, started.same.0, started.same.1) at end.cohesion in
    run_done a.leaves.weights.now a.leaves.coords.now a.shape.m a.shape.k a.shape.d c.args.rounds.most c.args.generator _ _ _ _
    c.seed-next.result c.lloyd-c.result c.cohesion_of-cohesion.result seeded.0 seeded.1 started.state e v end.same.1
