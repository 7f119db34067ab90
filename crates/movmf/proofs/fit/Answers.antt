-- `movmf::fit` meets its contract: what is not refused is within the limits, so both halves have room and the outputs can be filled; what
-- is found is the definition's fit. Assumes nothing.
use mathlib.Core.Path.{◌≡◌, refl, sym, ◌∙◌}
use mathlib.Core.Bool.{true}
use native.Mathlib.Omega.{arith}
use lib.ListN.{length}
use Rattle.std.specs.Prelude.{Ok}
use Rattle.limits.specs.Limits.{groups_ok}
use Rattle.mixture_restarts.specs.Kept.{kept_loglik}
use Rattle.mixture_restarts.proofs.Turns.{kept_em, kept_loglik_is, kept_counts}
use Rattle.mixture_outputs.specs.Outputs.{lengths_of}
use Rattle.mixture_outputs.specs.Lent.{outputs_of}
use Rattle.mixture_outputs.proofs.Refusals.{Ready, fits}
use Rattle.movmf.specs.Refusals.{refusal_of}
use Rattle.movmf.specs.Outcome.{answered, outcome}
use Rattle.movmf.proofs.Outcomes.{few, admitted, first_is}
use Rattle.movmf.proofs.fit.Goals.{In_ok-check}
use Rattle.movmf.proofs.fit.Goals as goal

-- nothing is refused
none : (c : In_ok-check) → let a = c.args in
    refusal_of a.leaves.weights.now a.leaves.coords.now a.leaves.d a.k a.s
    (lengths_of (outputs_of a.o.now) (length a.work.now) (length a.work_u32.now))
    ≡ Ok tt
none c =
    let a = c.args in
    let l = lengths_of (outputs_of a.o.now) (length a.work.now) (length a.work_u32.now) in
    sym (rw (c.groups_ok.ensures, c.lengths-l.ensures) at c.check.ensures) ∙ c.in_ok-check.was

-- past the refusals all is in range
ready_at : (c : In_ok-check) → let a = c.args in
    Ready (groups_ok a.k (length a.leaves.weights.now)) a.leaves.weights.now a.leaves.coords.now a.leaves.d a.k a.s.rounds
    (lengths_of (outputs_of a.o.now) (length a.work.now) (length a.work_u32.now))
ready_at c = let a = c.args in admitted a.leaves.weights.now a.leaves.coords.now a.leaves.d a.k a.s _ (none c)

pub check-requires : goal.check-requires
check-requires c =
    let a = c.args in
    λ (e : c.groups_ok.result ≡ true). (few a.k (length a.leaves.weights.now) (sym c.groups_ok.ensures ∙ e)).1

pub invariant_of-shape : goal.invariant_of-shape
invariant_of-shape c = record { sizes = (ready_at (goal.at.invariant_of-shape c).In_ok-check).sizes }

pub invariant_of-of : goal.invariant_of-of
invariant_of-of c =
    record { fit = record { weights_long = refl; coords_long = (ready_at (goal.at.invariant_of-of c).In_ok-check).coords_long } }

pub of-halves-requires : goal.of-halves-requires
of-halves-requires c =
    let r = ready_at (goal.at.of-halves-requires c).In_ok-check in
    (omega (arith, r.long.work_long), omega (arith, r.long.work_u32_long))

pub fill_outputs-requires : goal.fill_outputs-requires
fill_outputs-requires c =
    let a = c.args in
    let shape = c.four_runs-r.ensures.same.0 ∙ c.of-halves.ensures.0 in
    let r = ready_at (goal.at.fill_outputs-requires c).In_ok-check in
    rw (c.kept.ensures.same, shape) (fits (outputs_of a.o.now) (length a.work.now) (length a.work_u32.now) (length a.leaves.weights.now) a.k
    a.leaves.d r.long)

pub returns : goal.returns
returns c =
    let a = c.args in
    let h = c.four_runs-r in
    let z = c.of-halves.ensures in
    let free = c.of-halves.result.free in
    let shape = h.ensures.same.0 ∙ z.0 in
    let em = rw (z.0, z.1) at (kept_em free h.new.halves.free h.new.halves.held a.s h.result h.ensures) in
    let counts = rw (z.0, z.1) at (kept_counts free h.new.halves.free h.new.halves.held a.s h.result h.ensures) in
    let is = rw (z.0, z.1) at (kept_loglik_is free h.new.halves.free h.new.halves.held a.s h.result h.ensures) in
    let loglik = kept_loglik h.result.held h.result.last in
    let filled = rw (c.kept.ensures.same, shape, c.kept.ensures.kept loglik, em) at (c.fill_outputs.ensures.filled loglik) in
    let fit : answered (Ok (record { k = a.k; loglik = c.kept_loglik-loglik.result; counts = h.result.counts }))
    (outputs_of c.fill_outputs.new.o)
    ≡ outcome (outputs_of a.o.now) a.leaves.weights.now a.leaves.coords.now a.leaves.d a.k a.s (length a.work.now) (length a.work_u32.now) =
    rw (none (goal.at.returns c).In_ok-check, filled, counts, c.kept_loglik-loglik.ensures ∙ is) refl in
    record {
      same = c.fill_outputs.ensures.same;
      fitted = fit;
      labels_first = first_is (outputs_of a.o.now) a.leaves.weights.now a.leaves.coords.now a.leaves.d a.k a.s (length a.work.now)
          (length a.work_u32.now) _ _ fit;
    }
