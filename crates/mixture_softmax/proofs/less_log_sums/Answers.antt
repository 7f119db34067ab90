-- `mixture_softmax::less_log_sums` meets its contract.
use mathlib.Core.Path.{◌≡◌}
use lib.ListN.{length}
use Rattle.mixture_softmax.specs.Blocks.{log_over_at, from_log_at}
use Rattle.mixture_softmax.proofs.Joined.{joined_none, weighed_none, weighed_turn}
use Rattle.mixture_softmax.proofs.Blocks.{log_row, logs_turn}
use Rattle.mixture_softmax.proofs.less_log_sums.Goals as goal

pub loop-i-init : goal.loop-i-init
loop-i-init c =
    let a = c.args in (
      weighed_none (log_over_at a.k a.rows.now a.e.now) a.weights.now a.l,
      joined_none (from_log_at a.k a.rows.now a.e.now) a.k a.e.now,
    )

pub loop-i-preserved : goal.loop-i-preserved
loop-i-preserved c =
    let g = c.leaf_log_sum in
    let l = c.loop-i in
    let a = c.args in
    let m = length a.weights.now in
    let h = c.loop-i-test.true in
    let is : g.result ≡ log_over_at a.k a.rows.now a.e.now l.i =
    log_row a.k a.rows.now m c.requires.rows_long a.e.now l.e l.i h l.invariant.1 g.result g.ensures.0 in (
      weighed_turn (log_over_at a.k a.rows.now a.e.now) a.weights.now a.l l.s g.result l.i l.invariant.0 is,
      logs_turn a.k a.rows.now m c.requires.rows_long a.e.now l.e l.i h l.invariant.1 g.result g.ensures.0 g.new.e
          g.ensures.1,
    )
