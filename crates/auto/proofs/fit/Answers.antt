-- `auto::fit` meets its contract: what is not refused has room for the greatest number of groups; each end is the outcome at the number of
-- the refusal, and keeps the best number. Assumes nothing.
use mathlib.Core.Path.{ap, sym, ◌∙◌}
use Prim.Native.Nat.{◌≤◌}
use lib.ListN.{length}
use borrow.Author.Tests.{leb-true}
use lib.Dec.{leb}
use Rattle.limits.specs.Limits.{most_groups}
use Rattle.logarithm.specs.Logarithm.{ln_of}
use Rattle.mixture_outputs.specs.Outputs.{lengths_of}
use Rattle.mixture_outputs.specs.Lent.{outputs_of}
use Rattle.auto_tries.proofs.Below.{fittable}
use Rattle.auto.proofs.Outcomes.{highest_some, lowest_some, lowest_most, admitted}
use Rattle.auto.proofs.Outcomes.{done, done_best, done_first}
use Rattle.auto.proofs.fit.Goals.{After-highest_number-hi}
use Rattle.auto.proofs.fit.Goals as goal

some_at : (h : After-highest_number-hi) → 1 ≤ h.highest_number-hi.result
some_at h = let a = h.args in highest_some a.k_max (length a.leaves.weights.now) _ h.highest_number-hi.ensures

pub check-requires : goal.check-requires
check-requires c = λ e. leb-true _ _ e

pub fit_range-requires : goal.fit_range-requires
fit_range-requires c =
    let l = c.lowest_number-lo in
    let hi = c.highest_number-hi.result in
    let some = some_at (goal.at.fit_range-requires c).After-highest_number-hi in
    let a = c.args in
    let none = sym (rw c.lengths-l.ensures at c.check.ensures) ∙ c.in_ok-check.was in record {
      fittable = fittable (leb hi most_groups) a.leaves.weights.now a.leaves.coords.now a.leaves.d hi a.s.rounds (outputs_of a.o.now)
          (length a.work.now) (length a.work_u32.now)
          (admitted a.leaves.weights.now a.leaves.coords.now a.leaves.d hi a.s
          (lengths_of (outputs_of a.o.now) (length a.work.now) (length a.work_u32.now)) some none);
      le_lo = (
        lowest_some a.k_min hi l.result l.ensures some,
        lowest_most a.k_min hi l.result l.ensures,
        c.ln-ln_total.ensures ∙ ap ln_of c.sum.ensures,
      );
    }

pub returns : goal.returns
returns c =
    let l = c.lowest_number-lo in
    let h = c.highest_number-hi in
    let a = c.args in
    let o₀ = outputs_of a.o.now in
    let n = c.fit_range in
    let o = outputs_of n.new.o in
    let none = sym (rw c.lengths-l.ensures at c.check.ensures) ∙ c.in_ok-check.was in record {
      same = n.ensures.same;
      fitted = done o₀ a.leaves.weights.now a.leaves.coords.now a.leaves.d a.k_min a.k_max a.s (length a.work.now) (length a.work_u32.now)
          l.result h.result h.ensures l.ensures n.result c.answer.result o n.ensures.fitted c.answer.ensures none;
      keeps_best = done_best o₀ a.leaves.weights.now a.leaves.coords.now a.leaves.d a.k_min a.k_max a.s (length a.work.now)
          (length a.work_u32.now) l.result h.result h.ensures l.ensures n.result c.answer.result o n.ensures.fitted c.answer.ensures;
      labels_first = done_first o₀ a.leaves.weights.now a.leaves.coords.now a.leaves.d a.k_min a.k_max a.s (length a.work.now)
          (length a.work_u32.now) l.result h.result h.ensures l.ensures n.result c.answer.result o n.ensures.fitted c.answer.ensures;
    }
