-- `run_rounds` meets its contract: the concentrations, the clearing and the rounds, each by what it ensures, and what they find stands in
-- the rest. Assumes nothing.
use mathlib.Core.Path.{ap, ◌∙◌}
use Prim.Native.Nat.{◌*◌}
use borrow.Author.Rules.{rules}
use Rattle.limits.specs.declared.Shape.{Shape}
use Rattle.mixture_run.specs.Areas.{parts_of}
use Rattle.mixture_run.proofs.Runs.{rest_em, rounds_done}
use Rattle.mixture_run.proofs.run_rounds.Goals as goal

pub returns-clause-done : goal.returns-clause-done
returns-clause-done c =
    let z = c.args.problem.shape in
    let x = c.args.problem.leaves in
    let begun = c.init_kappas in
    let cleared = c.clear in
    let a = c.em.new.area in
    let s₁ = begun.ensures.same in
    let s₂ = cleared.ensures.same in
    let k₂ = s₂.0 ∙ s₁.0 in
    let l₂ = s₂.1 ∙ s₁.1 in
    let is = rounds_done c.args.s.kappa x.weights.now x.coords.now c.args.labels.now z.m z.k z.d c.args.s.rounds c.args.centers.now
    c.args.sums.now (parts_of begun.new.area) (parts_of cleared.new.area) (parts_of a) c.em.result begun.ensures.parts
    (rw (← s₁.0) cleared.ensures.parts) (rw (← k₂, ← l₂) c.em.ensures.rounds_done) in
    let k₃ = c.em.ensures.same.0 ∙ k₂ in
    let k = ap (λ (y : Shape). y.k) k₃ in
    let n = a.sized in
    rest_em z.m z.k (parts_of a) c.em.result c.split_at_mut-responsibilities.result.1.now (n.weights_long ∙ k) (n.kappas_long ∙ k)
    (n.log_coefficients_long ∙ k) (n.totals_long ∙ k) (n.norms_long ∙ k)
    (n.responsibilities_long ∙ ap (λ (y : Shape). y.m * y.k) k₃) _ _ (search rules) (search rules)
    ∙ is
