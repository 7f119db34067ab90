-- `kmeans_seeding::lower_from` meets its contract. The loop's invariant: with the part as it is in its place, the distances are lowered by
-- the first e new ones. Assumes nothing.
use mathlib.Core.Path.{◌≡◌}
use Prim.Native.Nat.{◌+◌, ◌-◌}
use lib.ListN.{take}
use Rattle.rows.specs.Rows.{put_part}
use Rattle.kmeans_seeding.specs.Distances.{lower_from}
use Rattle.kmeans_seeding.proofs.lower_from.Given as goal

abbrev pub invariant-loop-e : goal.invariant-loop-e
invariant-loop-e g l =
    let w = l.fn.distances in
    put_part w l.at (l.at + g.row.N - l.at) l.held-items ≡ lower_from w l.at (take l.e l.f)
