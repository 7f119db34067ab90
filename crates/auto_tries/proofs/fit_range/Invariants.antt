-- `auto_tries::fit_range` meets its contract. The loop's invariant: before number k the tally and the arrays, which are those lent, are
-- what the definition has after k − lo numbers; past what the numbers below k fill they are as found, and the counts are small. Assumes
-- nothing.
use Prim.Native.Nat.{◌*◌, ◌-◌}
use lib.ListN.{length}
use Rattle.counts.specs.Counts.{AtMost, of_runs}
use Rattle.mixture_outputs.specs.Lent.{outputs_of, SameArrays}
use Rattle.auto_tries.specs.Tries.{Tails, Fitted}
use Rattle.auto_tries.proofs.fit_range.Given as goal

abbrev pub invariant-loop-k : goal.invariant-loop-k
invariant-loop-k l =
    let o₀ = outputs_of l.fn.o in
    let w = l.leaves.weights.now in
    Fitted w l.leaves.coords.now l.leaves.d l.s o₀ l.lo (l.k - l.lo) l.t (outputs_of l.o)
    × Tails (length w) l.k l.leaves.d (outputs_of l.o) o₀
    × AtMost (of_runs (4 * (l.k - l.lo))) l.t.counts × SameArrays l.fn.o l.o
