-- `kmeans_restarts::run_all` meets its contract.
use native.Mathlib.Omega.{arith}
use Rattle.kmeans_restarts.specs.Restarts.{restarts_up_to}
use Rattle.kmeans_restarts.proofs.Kept.{restart_turn}
use Rattle.kmeans_restarts.proofs.run_all.Goals as goal

pub loop-init : goal.loop-init
unfolding restarts_up_to
loop-init c =
    let d = c.run-first.ensures.run_done in (
      omega arith,
      record {
        same = c.run-first.ensures.same;
        labels = d.labels;
        centers = d.centers;
        cohesion = d.cohesion;
        counts = d.counts;
        generator = d.generator;
        small = d.small;
      },
    )

pub loop-preserved : goal.loop-preserved
loop-preserved c =
    let l = c.loop in
    let a = c.args in
    (omega arith, restart_turn a.halves.now.held a.rounds.most a.seed l.counter _ _ _ _ (omega arith) l.invariant.1 c.restart-h.ensures)
