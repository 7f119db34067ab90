-- add_norms adds the norms of the rows of the sums: after c turns total is the sum of the first c. Assumes nothing.
use mathlib.Core.Path.{◌≡◌}
use Rattle.float.specs.Arithmetic.{plus_zero, sum_from}
use Rattle.kmeans_sums.specs.Sums.{norms_up_to}
use Rattle.kmeans_sums.proofs.add_norms.Given as goal

abbrev pub invariant-loop-c : goal.invariant-loop-c
invariant-loop-c l = l.total ≡ sum_from plus_zero (norms_up_to l.area.sums.now l.area.shape.d l.c)
