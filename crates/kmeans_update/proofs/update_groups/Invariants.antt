-- The loop's invariant of update_groups: the state is the definition's after c groups, and the sums of the other groups are as they were
-- (`UpdatedTo`). Assumes nothing.
use Rattle.kmeans_update.proofs.Updates.{UpdatedTo}
use Rattle.kmeans_update.proofs.update_groups.Given as goal

abbrev pub invariant-loop-c : goal.invariant-loop-c
invariant-loop-c l = UpdatedTo l.initial.area l.area l.c
