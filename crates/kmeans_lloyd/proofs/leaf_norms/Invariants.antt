-- `kmeans_lloyd::leaf_norms` meets its contract. The invariant of both loops: the scales of the leaves before the next one are their norms,
-- the others as they were, and so is all else. Assumes nothing.
use mathlib.Core.Path.{◌≡◌}
use Prim.Native.Nat.{◌*◌}
use Rattle.kmeans_layout.specs.Areas.{state_of, Same}
use Rattle.kmeans_lloyd.specs.Runs.{put_scale}
use Rattle.kmeans_lloyd.proofs.Starts.{normed}
use Rattle.kmeans_lloyd.proofs.leaf_norms.Given as goal

abbrev pub invariant-loop-b : goal.invariant-loop-b
invariant-loop-b l =
    let a = l.fn.area in
    let done = normed a.leaves.coords.now a.shape.d a.shape.m a.scale.now a.sized.scale_long in
    Same a l.area × (state_of l.area ≡ put_scale (done (4 * l.b)) (state_of a))

abbrev pub invariant-loop-i : goal.invariant-loop-i
invariant-loop-i l =
    let a = l.fn.area in
    let done = normed a.leaves.coords.now a.shape.d a.shape.m a.scale.now a.sized.scale_long in
    Same a l.area × (state_of l.area ≡ put_scale (done l.i) (state_of a))
