-- `kmeans_bounds::two_smallest` meets its contract. The loop's invariant: from `b` on, the drifts from c on make the two smallest of all.
-- Assumes nothing.
use mathlib.Core.Path.{◌≡◌}
use lib.ListN.{drop}
use Rattle.kmeans_bounds.specs.Shifts.{slowest_from, slowest_of}
use Rattle.kmeans_bounds.proofs.two_smallest.Given as goal

abbrev pub invariant-loop-c : goal.invariant-loop-c
invariant-loop-c l = slowest_from l.b l.c (drop l.c l.drift) ≡ slowest_of l.drift
