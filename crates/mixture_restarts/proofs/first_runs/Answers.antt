-- `mixture_restarts::first_runs` meets its contract.
use mathlib.Core.Path.{◌∙◌}
use native.Mathlib.Omega.{arith}
use Rattle.mixture_restarts.specs.Runs.{runs_up_to}
use Rattle.mixture_restarts.proofs.Turns.{runs_turn}
use Rattle.mixture_restarts.proofs.first_runs.Goals as goal

pub loop-t-init : goal.loop-t-init
unfolding runs_up_to
loop-t-init c =
    let r = c.run-first.ensures in
    let e = c.hold.ensures in record {
      same = (e.same.1.0 ∙ r.same.0, e.same.1.1 ∙ r.same.1);
      same_held = e.same.0 ∙ c.args.halves.now.alike;
      there = e.held c.run-first.result.loglik ∙ r.done.em;
      counts = r.done.counts;
      small = r.done.small;
    }

pub loop-t-preserved : goal.loop-t-preserved
loop-t-preserved c =
    let l = c.loop-t in
    runs_turn c.args.halves.now.free c.args.s l.t _ _ _ _ _ _ (omega arith) l.invariant c.one_more-h.ensures
