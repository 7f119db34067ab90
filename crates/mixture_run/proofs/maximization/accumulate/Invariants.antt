-- The invariant of `accumulate`: the parts are those of the start, with the statistics that the first i leaves gave, and nothing changes
-- sizes and leaves. Assumes nothing.
use Rattle.std.specs.Prelude.{◌≡◌}
use Rattle.mixture_run.specs.Areas.{parts_of, SameGroups}
use Rattle.mixture_run.proofs.Statistics.{leaves_done}
use Rattle.mixture_run.proofs.maximization.accumulate.Given as goal

abbrev pub invariant-loop-i : goal.invariant-loop-i
invariant-loop-i l =
    let a = l.fn.area in
    let x = a.leaves in
    (SameGroups a l.area) × (parts_of l.area ≡ leaves_done x.weights.now x.coords.now a.shape.k a.shape.d (parts_of a) l.i)
