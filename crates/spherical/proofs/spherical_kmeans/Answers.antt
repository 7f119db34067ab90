-- `spherical::spherical_kmeans` meets its contract: what is not refused is within the limits, so both halves have room and the outputs can
-- be filled; what is found is the definition's. Assumes nothing.
use mathlib.Core.Path.{refl, sym, ◌∙◌}
use native.Mathlib.Omega.{arith}
use lib.ListN.{length}
use Rattle.spherical.proofs.Refusals.{Ready, ready}
use Rattle.spherical.proofs.Work.{made_and_saved}
use Rattle.spherical.proofs.spherical_kmeans.Goals.{In_ok-check}
use Rattle.spherical.proofs.spherical_kmeans.Goals as goal

-- past the refusals all is in range
ready_at : (c : In_ok-check) → let a = c.args in
    Ready a.weights.now a.coords.now a.d a.k a.rounds a.restarts (length a.labels.now) (length a.directions.now)
    (length a.work.now) (length a.work_u32.now)
ready_at c =
    let a = c.args in
    ready a.weights.now a.coords.now a.d a.k a.rounds a.restarts (length a.labels.now) (length a.directions.now)
    (length a.work.now) (length a.work_u32.now) (sym c.check.ensures ∙ c.in_ok-check.was)

pub invariant_of-shape : goal.invariant_of-shape
invariant_of-shape c = record { sizes = (ready_at (goal.at.invariant_of-shape c).In_ok-check).sizes }

pub invariant_of-of : goal.invariant_of-of
invariant_of-of c =
    record { fit = record { weights_long = refl; coords_long = (ready_at (goal.at.invariant_of-of c).In_ok-check).coords_long } }

pub of-halves-requires : goal.of-halves-requires
of-halves-requires c =
    let r = ready_at (goal.at.of-halves-requires c).In_ok-check in
    (omega (arith, r.work_long), omega (arith, r.work_u32_long))

pub invariant_of-run_all : goal.invariant_of-run_all
invariant_of-run_all c = record { small = (ready_at (goal.at.invariant_of-run_all c).In_ok-check).rounds_small }

pub run_all-h-requires : goal.run_all-h-requires
run_all-h-requires c = (ready_at (goal.at.run_all-h-requires c).In_ok-check).restarts_small

pub copy_out-requires : goal.copy_out-requires
copy_out-requires c =
    let r = ready_at (goal.at.copy_out-requires c).In_ok-check in
    let same = c.run_all-h.ensures.same in
    rw (same.0, c.of-halves.ensures.0) (r.labels_long, r.directions_long)

pub returns-clause-counts_every_round : goal.returns-clause-counts_every_round
returns-clause-counts_every_round c found z =
    let a = c.args in
    let e = c.of-halves.ensures in
    let counts = rw (e.0, e.1) at c.run_all-h.ensures.counts in
    rw counts (made_and_saved a.weights.now a.coords.now a.d a.k a.rounds a.seed a.restarts)
