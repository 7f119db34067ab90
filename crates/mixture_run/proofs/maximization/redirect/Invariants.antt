-- The invariant of `redirect`: the parts are those of the start with the first c directions renewed, and nothing changes sizes and leaves.
-- Assumes nothing.
use Rattle.std.specs.Prelude.{◌≡◌}
use Rattle.mixture_run.specs.Areas.{parts_of, SameGroups}
use Rattle.mixture_run.proofs.Directions.{directions_done}
use Rattle.mixture_run.proofs.maximization.redirect.Given as goal

abbrev pub invariant-loop-c : goal.invariant-loop-c
invariant-loop-c l =
    let a = l.initial.area in
    (SameGroups a l.area) × (parts_of l.area ≡ directions_done a.shape.d (parts_of a) l.c)
