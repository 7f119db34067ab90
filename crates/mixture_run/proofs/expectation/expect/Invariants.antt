-- The invariant of `expect`: the log densities of the first i leaves stand before what was there, and nothing changes sizes and leaves.
-- Assumes nothing.
use Rattle.std.specs.Prelude.{◌≡◌}
use Rattle.mixture_run.specs.Areas.{parts_of, SameGroups}
use Rattle.mixture_run.proofs.Expected.{rows_done}
use Rattle.mixture_run.proofs.expectation.expect.Given as goal

abbrev pub invariant-loop-i : goal.invariant-loop-i
invariant-loop-i l =
    let a = l.initial.area in
    (SameGroups a l.area) × (parts_of l.area ≡ rows_done a.leaves.coords.now a.shape.k a.shape.d (parts_of a) l.i)
