-- `movmf_once` meets its contract: the warm start and the rounds, each by what it ensures. Assumes nothing.
use Rattle.mixture_run.proofs.Runs.{run_done}
use Rattle.mixture_run.proofs.movmf_once.Goals as goal

pub returns-clause-done : goal.returns-clause-done
returns-clause-done c =
    let a = c.args.area.now in
    let z = a.shape in
    let x = a.leaves in
    let w = c.warm_start-warm in
    run_done c.args.s x.weights.now x.coords.now z.m z.k z.d w.new.centers.now w.new.sums.now w.new.labels.now _ w.result
    c.run_rounds-loglik.result w.ensures.done w.ensures.sums c.run_rounds-loglik.ensures.done
