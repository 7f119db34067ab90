-- `kmeans_seeding::lower_distances` meets its contract: each turn lowers four distances more, or one. Assumes nothing.
use mathlib.Core.Path.{◌≡◌, refl, ap, ◌∙◌}
use Prim.Native.Nat.{ℕ, ◌+◌, ◌*◌}
use native.Mathlib.Omega.{arith}
use Rattle.kmeans_seeding.proofs.Seeds.{lowering, lowering_more, lowering_all}
use Rattle.kmeans_seeding.proofs.lower_distances.Goals as goal

pub loop-b-init : goal.loop-b-init
loop-b-init c = refl

pub loop-b-preserved : goal.loop-b-preserved
loop-b-preserved c =
    let a = c.args in
    let l = c.loop-b in
    let coords = a.problem.leaves.coords.now in
    let d = a.problem.shape.d in
    let e : 4 * l.b + 4 ≡ 4 * (l.b + 1) = omega arith in
    rw (c.lower_from.ensures, c.cosine_distances-f.ensures)
    (lowering_more coords d a.center.now a.distances.now l.distances (4 * l.b) 4 (omega (arith, c.requires)) l.invariant
    ∙ ap (λ (i : ℕ). lowering coords d a.center.now i a.distances.now) e)

pub loop-i-preserved : goal.loop-i-preserved
loop-i-preserved c =
    let a = c.args in
    let l = c.loop-i in
    rw (c.lower_from-in-loop-i.ensures, c.cosine_distances-f-in-loop-i.ensures)
    (lowering_more a.problem.leaves.coords.now a.problem.shape.d a.center.now a.distances.now l.distances l.i 1
    (omega (arith, c.requires)) l.invariant)

pub returns : goal.returns
returns c =
    let a = c.args in
    let l = c.loop-i in
    l.invariant
    ∙ lowering_all a.problem.leaves.coords.now a.problem.shape.d a.center.now a.distances.now l.i (omega (arith, c.requires))
