-- `kmeans_seeding::seed` meets its contract. The loop's invariant: the first c rows of the centres, the distances and the generator are
-- those of c seeds; nothing is said of the rows past them. Assumes nothing.
use Rattle.kmeans_seeding.specs.Distances.{held_by}
use Rattle.kmeans_seeding.proofs.Seeds.{Held}
use Rattle.kmeans_seeding.proofs.seed.Given as goal

abbrev pub invariant-loop-c : goal.invariant-loop-c
invariant-loop-c l = Held l.problem l.generator l.c (held_by l.centers l.distances l.g)
