-- `pass_over` meets its contract: a turn shifts the leaf's bounds and is then the definition's; what is counted stays small; at the end all
-- leaves are done. Assumes nothing.
use mathlib.Core.Path.{◌≡◌, ◌∙◌}
use native.Mathlib.Omega.{arith}
use Rattle.counts.specs.Counts.{AtMost, of_round}
use Rattle.kmeans_assign.specs.Lent.{state_in}
use Rattle.kmeans_assign.specs.Turns.{shift_by}
use Rattle.kmeans_assign.proofs.Passes.{pass_small}
use Rattle.kmeans_assign.proofs.Fused.{leaf_done, all_shifted}
use Rattle.kmeans_assign.proofs.pass_over.Goals.{At-loop-i}
use Rattle.kmeans_assign.proofs.pass_over.Goals as goal

small_at : (p : At-loop-i) → AtMost of_round p.loop-i.p.counts
small_at p =
    let a = p.args.a.now in
    let l = p.loop-i in
    let shifted = shift_by a.shape.k p.drifts-drifts.result (state_in a) l.i in
    pass_small a.coords.now a.shape shifted p.args.it l.i (state_in l.a) l.p l.invariant.1 l.auto.i-end

pub tally-p-requires : goal.tally-p-requires
tally-p-requires c = (small_at (goal.at.tally-p-requires c).At-loop-i, c.leaf_turn-turn.new.a.shape.sizes.k_small)

pub loop-i-preserved : goal.loop-i-preserved
loop-i-preserved c =
    let a = c.args.a.now in
    let l = c.loop-i in
    let same = l.invariant.0 in
    let turn = c.leaf_turn-turn.ensures in (
      record {
        shape = turn.same.shape ∙ same.shape;
        coords = turn.same.coords ∙ same.coords;
        centers = turn.same.centers ∙ same.centers;
        scale = turn.same.scale ∙ same.scale;
        low = turn.same.low ∙ same.low;
        high = turn.same.high ∙ same.high;
        served = turn.same.served ∙ same.served;
        drift = turn.same.drift ∙ same.drift;
        labels = turn.same.labels ∙ same.labels;
      },
      leaf_done a.coords.now a.shape.k a.shape.d c.args.it (state_in a) l.i c.drifts-drifts.result (state_in l.a)
          (state_in c.leaf_turn-turn.new.a) l.p c.tally-p.result c.leaf_turn-turn.result l.invariant.1
          (rw (← same.shape, ← same.coords) turn.passed) (rw (← same.shape, ← turn.same.shape) c.tally-p.ensures),
    )

pub returns-clause-done : goal.returns-clause-done
returns-clause-done c =
    let a = c.args.a.now in
    let l = c.loop-i in
    let e : l.i ≡ a.shape.m = omega (arith, l.auto.i-end, c.loop-i-test.false) in record {
      answer_is = l.invariant.1 ∙ rw (e, c.drifts-drifts.ensures, all_shifted a.shape.m a.shape.k c.args.it (state_in a));
      small = small_at (goal.at.returns-clause-done c).At-loop-i;
    }
