-- The invariant of `accumulate_leaf`: the parts are those of the start, where the first c groups have gained the leaf, and nothing changes
-- sizes and leaves. Assumes nothing.
use Rattle.std.specs.Prelude.{◌≡◌}
use lib.ListN.{get_or}
use lib.Ieee.{nan}
use Rattle.rows.specs.Rows.{row_of}
use Rattle.mixture_run.specs.Areas.{parts_of, SameGroups}
use Rattle.mixture_run.proofs.Statistics.{leaf_done}
use Rattle.mixture_run.proofs.maximization.accumulate_leaf.Given as goal

abbrev pub invariant-loop-c : goal.invariant-loop-c
invariant-loop-c l =
    let a = l.initial.area in
    let z = a.shape in
    (SameGroups a l.area)
    × (parts_of l.area ≡ leaf_done z.k z.d l.i (get_or a.leaves.weights.now l.i nan) (row_of a.leaves.coords.now z.d l.i)
    (parts_of a) l.c)
