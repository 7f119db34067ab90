-- `kmeans_update::reseed` meets its contract: the row among the sums becomes the leaf's unit vector, and 1 over 0 is infinite. Assumes
-- nothing.
use mathlib.Core.Path.{ap, ◌∙◌}
use mathlib.Core.List.{List}
use Prim.Native.Nat.{ℕ}
use lib.ListN.{set}
use lib.Ieee.{Float, of_bits, div}
use Rattle.vector.specs.Vectors.{unit_vector}
use Rattle.kmeans_layout.specs.Areas.{state_of}
use Rattle.kmeans_update.specs.Update.{put_served, move_center, best_served, reseeded}
use Rattle.kmeans_update.proofs.Updates.{row_put}
use Rattle.kmeans_update.proofs.reseed.Goals as goal

pub returns-clause-state : goal.returns-clause-state
unfolding of_bits div put_served
returns-clause-state c =
    let a = c.args.area.now in
    let d = a.shape.d in
    let row = row_put a.sums.now c.unit.new.to c.args.c a.shape.k d c.unit.auto.to a.sized.sums_long c.requires ∙ c.unit.ensures in
    c.move_center.ensures.state
    ∙ ap (λ (r : List Float). move_center d c.args.c r (put_served (set a.served.now c.worst-worst.result best_served) (state_of a)))
    (row ∙ ap unit_vector c.leaf-leaf.ensures)
    ∙ ap (λ (j : ℕ). reseeded a.leaves.coords.now d c.args.c j (state_of a)) c.worst-worst.ensures.0
