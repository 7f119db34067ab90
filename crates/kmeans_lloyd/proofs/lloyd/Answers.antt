-- `kmeans_lloyd::lloyd` meets its contract.
use mathlib.Core.Path.{◌∙◌}
use Prim.Native.Nat.{◌-◌, ◌+◌}
use native.Mathlib.Omega.{arith}
use borrow.Author.Rules.{rules}
use Rattle.kmeans_layout.specs.Areas.{state_of}
use Rattle.kmeans_lloyd.specs.Runs.{rounds_in}
use Rattle.kmeans_lloyd.proofs.Rounds.{few_turn, goes_on, stops, runs_out}
use Rattle.kmeans_lloyd.proofs.lloyd.Goals as goal

pub loop-it-preserved : goal.loop-it-preserved
loop-it-preserved c =
    let l = c.loop-it in
    let a = c.args.area.now in
    let n = c.args.rounds.most in
    let e = c.one_round.ensures in
    let same = l.invariant.0 in
    let done = rw (same.0, same.1, c.in-Continue.is) at e.done in (
      (e.same.0 ∙ same.0, e.same.1 ∙ same.1),
      few_turn l.it l.c c.add-c.result c.in-Continue.n (search rules) c.add-c.ensures l.invariant.1,
      goes_on a.leaves.weights.now a.leaves.coords.now a.shape.m a.shape.k a.shape.d (rounds_in a n) (n - l.it)
          (n - (l.it + 1)) l.it (state_of l.area) (state_of c.one_round.new.area) l.c c.add-c.result c.in-Continue.n
          (omega arith) c.add-c.ensures l.invariant.2 done,
    )

pub returns-in-Break-clause-done : goal.returns-in-Break-clause-done
returns-in-Break-clause-done c =
    let l = c.loop-it in
    let a = c.args.area.now in
    let n = c.args.rounds.most in
    let same = l.invariant.0 in
    let done = rw (same.0, same.1, c.in-Break.is) at c.one_round.ensures.done in
    stops a.leaves.weights.now a.leaves.coords.now a.shape.m a.shape.k a.shape.d (rounds_in a n) (n - l.it)
    (n - (l.it + 1)) l.it (state_of l.area) (state_of c.one_round.new.area) l.c c.add.result c.in-Break.n (omega arith)
    c.add.ensures l.invariant.2 done
    (few_turn l.it l.c c.add.result c.in-Break.n (search rules) c.add.ensures l.invariant.1) (omega arith)

pub returns-clause-done : goal.returns-clause-done
returns-clause-done c =
    let l = c.loop-it in
    let a = c.args.area.now in
    let n = c.args.rounds.most in
    runs_out a.leaves.weights.now a.leaves.coords.now a.shape.m a.shape.k a.shape.d (rounds_in a n) (n - l.it) l.it
    (state_of l.area) l.c (omega (arith, c.loop-it-test.false)) l.invariant.2 l.invariant.1 (omega (arith, c.args.rounds.small))
