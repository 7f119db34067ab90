-- `auto_tries::fit_range` meets its contract.
use mathlib.Core.Path.{refl, ap}
use Prim.Native.Nat.{◌*◌, ◌-◌, ◌≤◌}
use native.Mathlib.Omega.{arith}
use lib.ListN.{length}
use borrow.Author.Rules.{rules}
use Rattle.counts.specs.Counts.{of_runs}
use Rattle.counts.specs.declared.Counts.{Counts}
use Rattle.counts.proofs.Sums.{at_most_none}
use Rattle.mixture_outputs.specs.Lent.{outputs_of}
use Rattle.std.specs.Prelude.{None}
use Rattle.auto_tries.specs.declared.Tally.{Tally}
use Rattle.auto_tries.proofs.Tails.{tails_start}
use Rattle.auto_tries.proofs.Numbers.{fitted_start, fitted_turn, tails_turn, small_turn}
use Rattle.auto_tries.proofs.Below.{fittable_below}
use Rattle.auto_tries.proofs.fit_range.Goals as goal

abbrev begun : Counts → Tally
begun counts = record { kept = None; counts = counts }

pub loop-k-init : goal.loop-k-init
loop-k-init c =
    let a = c.args in
    let o = outputs_of a.o.now in (
      fitted_start o a.leaves.weights.now a.leaves.coords.now a.leaves.d a.s a.lo _ (ap begun c.default.ensures),
      tails_start (length a.leaves.weights.now) a.lo a.leaves.d o,
      rw c.default.ensures (at_most_none (of_runs (4 * (a.lo - a.lo)))),
      search rules,
    )

pub fit_of_k-t-requires-clause-fittable : goal.fit_of_k-t-requires-clause-fittable
fit_of_k-t-requires-clause-fittable c =
    let a = c.args in
    let l = c.loop-k in
    fittable_below a.leaves.weights.now a.leaves.coords.now a.hi l.k a.leaves.d (length a.work.now) (length l.work)
    (length a.work_u32.now) (length l.work_u32) a.o.now l.o (omega arith) (omega arith) l.auto.work l.auto.work_u32 l.invariant.3
    c.requires.fittable

pub loop-k-preserved : goal.loop-k-preserved
loop-k-preserved c =
    let a = c.args in
    let o₀ = outputs_of a.o.now in
    let l = c.loop-k in
    let n = c.fit_of_k-t in
    let least : a.lo ≤ l.k = omega arith in
    let w = a.leaves.weights.now in
    let x = a.leaves.coords.now in
    let o = outputs_of l.o in
    let o' = outputs_of n.new.o in (
      fitted_turn o₀ w x a.leaves.d a.s a.lo l.k (l.k - a.lo) l.t n.result o o' n.ensures.fit l.invariant.1 least refl l.invariant.0,
      tails_turn o₀ w x a.leaves.d a.s a.lo l.k (l.k - a.lo) l.t n.result o o' n.ensures.fit l.invariant.1,
      small_turn o₀ w x a.leaves.d a.s a.lo l.k (l.k - a.lo) l.t n.result o o' n.ensures.fit l.invariant.1 least l.invariant.2,
      search rules,
    )
