-- `mixture_restarts::one_more` meets its contract: what is held after it, by the way that the test went. Assumes nothing.
use mathlib.Core.Path.{refl, ap, ◌∙◌}
use Rattle.kmeans_layout.specs.declared.Held.{Held}
use Rattle.mixture_restarts.specs.Kept.{run_in}
use Rattle.mixture_restarts.proofs.Turns.{taken, left}
use Rattle.mixture_restarts.proofs.one_more.Goals.{then-gives_way, else-gives_way}
use Rattle.mixture_restarts.proofs.one_more.Goals as goal

pub returns : goal.returns
returns c =
    let h = c.args.halves.now in
    let r = c.run-r in
    let d = r.ensures.done in
    let value = ap (λ (x : Held). x.value) c.after.ensures in
    let counts = ap (λ (x : Held). x.counts) c.after.ensures in
    let small = d.small in
    elim c.if-gives_way.branch [
      | then-gives_way w ↦
          let e = w.hold.ensures in
          rw w.halves-is (record {
            same = (e.same.1.0 ∙ r.ensures.same.0, e.same.1.1 ∙ r.ensures.same.1);
            same_held = e.same.0;
            there = taken c.args.h c.after.result h.held w.hold.new.halves.held r.new.area (run_in h.free c.args.s c.args.t)
                r.result.loglik d.em value c.gives_way.result c.gives_way.ensures w.if-gives_way.true e.held;
            counts = counts ∙ rw d.counts;
            small = rw (← d.counts) small;
          })
      | else-gives_way w ↦
          rw w.halves-is (record {
            same = r.ensures.same;
            same_held = refl;
            there = left c.args.h c.after.result h.held h.held r.new.area (run_in h.free c.args.s c.args.t) r.result.loglik
                d.em value c.gives_way.result c.gives_way.ensures w.if-gives_way.false;
            counts = counts ∙ rw d.counts;
            small = rw (← d.counts) small;
          })
    ]
