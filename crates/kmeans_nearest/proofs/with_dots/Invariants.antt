-- `kmeans_nearest::with_dots` meets its contract. The loop's invariant: the best so far is that with the first i dots. Assumes nothing.
use mathlib.Core.Path.{◌≡◌}
use lib.ListN.{take}
use Rattle.kmeans_nearest.specs.Blocks.{with_dots}
use Rattle.kmeans_nearest.proofs.with_dots.Given as goal

abbrev pub invariant-loop-i : goal.invariant-loop-i
invariant-loop-i l = l.b ≡ with_dots l.initial.b l.c (take l.i l.f)
