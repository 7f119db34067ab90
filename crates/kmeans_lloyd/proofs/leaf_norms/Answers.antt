-- `kmeans_lloyd::leaf_norms` meets its contract.
use mathlib.Core.Path.{◌≡◌, refl, ap, ◌∙◌}
use Prim.Native.Nat.{◌+◌, ◌*◌, ◌-◌, ◌≤◌}
use native.Mathlib.Omega.{arith}
use Rattle.kmeans_layout.specs.State.{State}
use Rattle.kmeans_layout.specs.Areas.{state_of}
use Rattle.kmeans_sums.specs.Sums.{norms_up_to}
use Rattle.kmeans_lloyd.specs.Runs.{put_scale}
use Rattle.kmeans_lloyd.proofs.Starts.{normed, scaled, norms_block, norms_next}
use Rattle.kmeans_lloyd.proofs.leaf_norms.Goals as goal

pub loop-b-init : goal.loop-b-init
unfolding put_scale norms_up_to
loop-b-init c = ((refl, refl), refl)

pub loop-b-preserved : goal.loop-b-preserved
unfolding put_scale
loop-b-preserved c =
    let l = c.loop-b in
    let a = c.args.area.now in
    let i = 4 * l.b in
    let h : i + 4 ≤ a.shape.m = omega arith in
    let cut : i + 4 - i ≡ 4 = omega arith in
    let next : i + 4 ≡ 4 * (l.b + 1) = omega arith in
    let norms = normed a.leaves.coords.now a.shape.d a.shape.m a.scale.now a.sized.scale_long in
    let same = l.invariant.0 in
    let done : l.area.scale.now ≡ norms i = ap (λ (s : State). s.scale) l.invariant.1 in (
      same,
      scaled (state_of a) (state_of l.area) _ _ _ l.invariant.1
          (rw (cut, c.copy_from_slice.ensures.after, c.four_norms-norms.ensures, same.0, same.1, done)
          (norms_block a.leaves.coords.now a.shape.d a.shape.m a.scale.now a.sized.scale_long i 4 h) ∙ ap norms next),
    )

pub loop-i-preserved : goal.loop-i-preserved
unfolding put_scale
loop-i-preserved c =
    let l = c.loop-i in
    let a = c.args.area.now in
    let same = l.invariant.0 in
    let done : l.area.scale.now ≡ normed a.leaves.coords.now a.shape.d a.shape.m a.scale.now a.sized.scale_long l.i =
    ap (λ (s : State). s.scale) l.invariant.1 in (
      same,
      scaled (state_of a) (state_of l.area) _ _ _ l.invariant.1
          (rw done (norms_next a.leaves.coords.now a.shape.d a.shape.m a.scale.now a.sized.scale_long l.i c.norm.result (omega arith)
          (rw (c.leaf.ensures, same.0, same.1) at c.norm.ensures))),
    )
