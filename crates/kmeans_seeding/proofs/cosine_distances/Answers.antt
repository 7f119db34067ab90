-- `kmeans_seeding::cosine_distances` meets its contract: each distance is that of a dot, once the literals are computed. Assumes nothing.
use mathlib.Core.Path.{refl, ◌∙◌}
use lib.Ieee.{of_bits, of_int}
use borrow.Author.Rules.{rules}
use Rattle.float.proofs.Arrays.{map_is}
use Rattle.kmeans_seeding.proofs.Seeds.{distance_by, distances_done}
use Rattle.kmeans_seeding.proofs.cosine_distances.Goals as goal

pub returns : goal.returns
unfolding of_bits of_int
returns g c =
    let a = c.args in
    map_is _ _ (λ q x y v k. refl) _ _ distance_by (search rules) c.map.ensures.items (λ x y q k. search rules)
    ∙ rw c.row_dots-f.ensures (distances_done a.problem.leaves.coords.now a.problem.shape.d a.center.now a.i g.row.N)
