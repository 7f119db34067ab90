-- `kmeans_seeding::first_distances` meets its contract: infinite distances, lowered where the first centre is nearer, are the distances
-- from it. Assumes nothing.
use mathlib.Core.Path.{◌≡◌, ap, ◌∙◌}
use mathlib.Core.Bool.{false}
use lib.ListN.{replicate}
use lib.Ieee.{inf, div, of_bits}
use Rattle.kmeans_seeding.specs.Seeding.{lowered}
use Rattle.kmeans_seeding.proofs.Seeds.{lowered_first}
use Rattle.kmeans_seeding.proofs.first_distances.Goals as goal

pub returns : goal.returns
unfolding div of_bits
returns c =
    let a = c.args in
    let coords = a.problem.leaves.coords.now in
    let d = a.problem.shape.d in
    let m = a.problem.shape.m in
    let far : c.fill.new.v ≡ replicate m (inf false) = rw (← c.requires) c.fill.ensures in
    c.lower_distances.ensures ∙ ap (lowered coords d a.center.now 0) far ∙ lowered_first coords d a.center.now m
