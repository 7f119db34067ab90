-- `auto_tries::fit_of_k` meets its contract: what the four runs keep is the lone fit, by what the calls ensure; the outputs are
-- written where its score beats the one held. Assumes nothing.
use mathlib.Core.Path.{◌≡◌, ap, ◌∙◌}
use lib.ListN.{length}
use lib.Ieee.{le}
use Rattle.limits.specs.declared.Shape.{Shape}
use Rattle.kmeans_layout.specs.Kept.{kept_of}
use Rattle.mixture_run.specs.Areas.{area_em}
use Rattle.mixture_restarts.specs.Kept.{held_em, kept_loglik}
use Rattle.mixture_restarts.proofs.Turns.{kept_em, kept_loglik_is, kept_counts}
use Rattle.mixture_outputs.specs.Lent.{outputs_of}
use Rattle.auto_tries.specs.Lone.{lone}
use Rattle.auto_tries.specs.Tries.{Full}
use Rattle.auto_tries.proofs.Numbers.{kept_full, fitted_kept, fitted_left}
use Rattle.auto_tries.proofs.fit_of_k.Goals.{After-four_runs-r}
use Rattle.auto_tries.proofs.fit_of_k.Goals as goal

-- what the kept run found is what the lone fit finds
em_at : (p : After-four_runs-r) → let a = p.args in
    let r = p.four_runs-r.result in
    let h = p.four_runs-r.new.halves in
    let l = kept_loglik r.held r.last in
    kept_of r.held r.last (held_em h.held l) (area_em h.free l) ≡ (lone a.leaves.weights.now a.leaves.coords.now a.leaves.d a.s a.k).em
em_at p =
    let z = p.of-halves.ensures in
    let h = p.four_runs-r in
    rw (z.0, z.1) at (kept_em p.of-halves.result.free h.new.halves.free h.new.halves.held p.args.s h.result h.ensures)

loglik_at : (p : After-four_runs-r) → let a = p.args in
    let r = p.four_runs-r.result in
    kept_loglik r.held r.last ≡ (lone a.leaves.weights.now a.leaves.coords.now a.leaves.d a.s a.k).em.loglik
loglik_at p =
    let z = p.of-halves.ensures in
    let h = p.four_runs-r in
    rw (z.0, z.1) at (kept_loglik_is p.of-halves.result.free h.new.halves.free h.new.halves.held p.args.s h.result h.ensures)

counts_at : (p : After-four_runs-r) → let a = p.args in
    p.four_runs-r.result.counts ≡ (lone a.leaves.weights.now a.leaves.coords.now a.leaves.d a.s a.k).counts
counts_at p =
    let z = p.of-halves.ensures in
    let h = p.four_runs-r in
    rw (z.0, z.1) at (kept_counts p.of-halves.result.free h.new.halves.free h.new.halves.held p.args.s h.result h.ensures)

-- its sizes are those of the fit
shape_at : (p : After-four_runs-r) → p.four_runs-r.new.halves.free.shape ≡ p.of-halves.result.free.shape
shape_at p = p.four_runs-r.ensures.same.0

full_at : (p : After-four_runs-r) → let a = p.args in
    Full (length a.leaves.weights.now) a.k a.leaves.d (lone a.leaves.weights.now a.leaves.coords.now a.leaves.d a.s a.k).em
full_at p =
    let a = p.args in
    let r = p.four_runs-r.result in
    let h = p.four_runs-r.new.halves in
    let sh = shape_at p ∙ p.of-halves.ensures.0 in
    rw (em_at p) at (kept_full (length a.leaves.weights.now) a.k a.leaves.d h.held h.free h.alike (kept_loglik r.held r.last)
    (le r.last r.held) (ap (λ (z : Shape). z.m) sh) (ap (λ (z : Shape). z.k) sh) (ap (λ (z : Shape). z.d) sh))

pub returns-then-beats-clause-fit : goal.returns-then-beats-clause-fit
returns-then-beats-clause-fit c =
    let p = (goal.at.returns-then-beats-clause-fit c).After-four_runs-r in
    let a = c.args in
    let r = c.four_runs-r in
    let sh = shape_at p ∙ c.of-halves.ensures.0 in
    let beats = rw c.choice_of.ensures at c.beats.ensures in
    let loglik = kept_loglik r.result.held r.result.last in
    let filled = rw (c.kept.ensures.same, sh, c.kept.ensures.kept loglik, em_at p) at (c.fill_outputs.ensures.filled loglik) in
    fitted_kept a.leaves.weights.now a.leaves.coords.now a.leaves.d a.k a.s r.result (loglik_at p) (counts_at p) r.ensures.small
    (full_at p) a.t c.kept_loglik-loglik.result a.ln_total c.score_at-score.result c.beats.result c.add-counts.result
    c.kept_loglik-loglik.ensures c.requires.at_most.1 c.score_at-score.ensures beats c.add-counts.ensures (outputs_of a.o.now)
    (outputs_of c.fill_outputs.new.o) c.if-beats.true filled

pub returns-clause-fit : goal.returns-clause-fit
returns-clause-fit c =
    let p = (goal.at.returns-clause-fit c).After-four_runs-r in
    let a = c.args in
    let r = c.four_runs-r in
    let beats = rw c.choice_of.ensures at c.beats.ensures in
    fitted_left a.leaves.weights.now a.leaves.coords.now a.leaves.d a.k a.s r.result (loglik_at p) (counts_at p) r.ensures.small
    (full_at p) a.t c.kept_loglik-loglik.result a.ln_total c.score_at-score.result c.beats.result c.add-counts.result
    c.kept_loglik-loglik.ensures c.requires.at_most.1 c.score_at-score.ensures beats c.add-counts.ensures (outputs_of a.o.now)
    c.if-beats.false
