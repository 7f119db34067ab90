-- The invariant of `label_totals`: the totals are those of the first i leaves, beside the parts of the start, and nothing changes arrays,
-- sizes and leaves. Assumes nothing.
use Rattle.std.specs.Prelude.{◌≡◌}
use Rattle.mixture_run.specs.Areas.{parts_of, SameGroups}
use Rattle.mixture_run.proofs.LabelTotals.{totalled}
use Rattle.mixture_run.proofs.start.label_totals.Given as goal

abbrev pub invariant-loop-i : goal.invariant-loop-i
invariant-loop-i l =
    let a = l.fn.area in
    (SameGroups a l.area) × (parts_of l.area ≡ totalled a.leaves.weights.now l.labels a.shape.k (parts_of a) l.i)
