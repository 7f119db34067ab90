-- accumulate makes the sums and counts of the groups: both are cleared, and after i turns they are those of the first i leaves, beside the
-- state of the start. Assumes nothing.
use Rattle.kmeans_sums.proofs.Sums.{Gathered}
use Rattle.kmeans_sums.proofs.accumulate.Given as goal

abbrev pub invariant-loop-i : goal.invariant-loop-i
invariant-loop-i l = Gathered l.fn.area l.area l.i
