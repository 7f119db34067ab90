-- The invariant of `em`: the rounds that are left, from the parts and the log-likelihood as they are, end as all rounds do from the start,
-- and nothing changes sizes and leaves. Assumes nothing.
use Rattle.std.specs.Prelude.{◌≡◌, true, ◌-◌}
use Rattle.std.specs.Float.{inf}
use Rattle.mixture_run.specs.Mixture.{em_from}
use Rattle.mixture_run.specs.Areas.{parts_of, em_of, SameGroups}
use Rattle.mixture_run.proofs.em.Given as goal

abbrev pub invariant-loop-it : goal.invariant-loop-it
invariant-loop-it l =
    let a = l.initial.area in
    let x = a.leaves in
    let z = a.shape in
    let rounds = em_from l.kappa x.weights.now x.coords.now z.m z.k z.d in
    (SameGroups a l.area)
    × (rounds (l.rounds - l.it) l.it (em_of (parts_of l.area) l.loglik) ≡ rounds l.rounds 0 (em_of (parts_of a) (inf true)))
