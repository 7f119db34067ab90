-- `kmeans_seeding::seed` meets its contract: after the first seed one is held, and each turn holds one more. Assumes nothing.
use borrow.Author.Rules.{rules}
use native.Mathlib.Omega.{arith}
use Rattle.kmeans_seeding.specs.Distances.{held_by}
use Rattle.kmeans_seeding.proofs.Seeds.{first_below, held_first, held_turn, held_end}
use Rattle.kmeans_seeding.proofs.seed.Goals as goal

pub seed_center-requires-clause-below : goal.seed_center-requires-clause-below
seed_center-requires-clause-below c =
    let a = c.args in
    (a.problem.shape.sizes.k_some, rw c.weighted_pick-p.ensures (first_below a.problem a.generator))

pub loop-c-init : goal.loop-c-init
loop-c-init c =
    let a = c.args in
    held_first a.problem a.generator a.centers.now _ _ _ c.requires.centers_long c.weighted_pick-p.ensures c.seed_center.ensures
    (rw c.row.ensures at c.first_distances.ensures)

pub loop-c-preserved : goal.loop-c-preserved
loop-c-preserved c =
    let a = c.args in
    let l = c.loop-c in
    let n = c.seed_next-g in
    held_turn a.problem a.generator (held_by l.centers l.distances l.g) (held_by n.new.centers n.new.distances n.result) l.c (omega arith)
    (search rules) (search rules) (search rules) l.invariant n.ensures

pub returns : goal.returns
returns c =
    let a = c.args in
    let l = c.loop-c in
    held_end a.problem a.generator (held_by l.centers l.distances l.g) l.c (omega arith) (search rules) l.invariant
