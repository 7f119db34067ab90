-- `kmeans_seeding::seed_next` meets its contract: the chances are written, picked from, and the leaf picked becomes the centre, which
-- lowers the distances. Assumes nothing.
use Rattle.kmeans_seeding.specs.Distances.{held_by}
use Rattle.kmeans_seeding.proofs.Seeds.{next_below, next_done}
use Rattle.kmeans_seeding.proofs.seed_next.Goals as goal

pub seed_center-requires-clause-below : goal.seed_center-requires-clause-below
seed_center-requires-clause-below c =
    let a = c.args in
    let s = held_by a.centers.now a.distances.now a.generator in
    (c.requires.below, next_below a.problem s _ _ c.requires.lent.distances_long c.put_chances.ensures c.weighted_pick-p.ensures)

pub returns : goal.returns
returns c =
    let a = c.args in
    let s = held_by a.centers.now a.distances.now a.generator in
    next_done a.problem s a.c _ _ _ _ c.requires.below c.requires.lent.centers_long c.requires.lent.distances_long c.put_chances.ensures
    c.weighted_pick-p.ensures c.seed_center.ensures (rw c.row.ensures at c.lower_distances.ensures)
