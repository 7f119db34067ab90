-- `kmeans_seeding::lower_distances` meets its contract. The invariant of both loops: the distances before the next one are lowered, the
-- others as they were. Assumes nothing.
use mathlib.Core.Path.{◌≡◌}
use Prim.Native.Nat.{◌*◌}
use Rattle.kmeans_seeding.proofs.Seeds.{lowering}
use Rattle.kmeans_seeding.proofs.lower_distances.Given as goal

abbrev pub invariant-loop-b : goal.invariant-loop-b
invariant-loop-b l = l.distances ≡ lowering l.problem.leaves.coords.now l.problem.shape.d l.center (4 * l.b) l.fn.distances

abbrev pub invariant-loop-i : goal.invariant-loop-i
invariant-loop-i l = l.distances ≡ lowering l.problem.leaves.coords.now l.problem.shape.d l.center l.i l.fn.distances
