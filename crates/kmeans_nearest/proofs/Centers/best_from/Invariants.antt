-- `best_from` meets its contract. The invariant of both loops: the best so far is that of the centres before the next one. Assumes
-- nothing.
use mathlib.Core.Path.{◌≡◌}
use Prim.Native.Nat.{◌+◌, ◌*◌, ◌-◌}
use Rattle.kmeans_nearest.specs.Nearest.{best_to}
use Rattle.kmeans_nearest.proofs.Centers.best_from.Given as goal

abbrev pub invariant-loop-i : goal.invariant-loop-i
invariant-loop-i l = l.b ≡ best_to l.x l.self.rows.now l.self.d (l.at + 4 * l.i - 1)

abbrev pub invariant-loop-c : goal.invariant-loop-c
invariant-loop-c l = l.b ≡ best_to l.x l.self.rows.now l.self.d (l.c - 1)
