-- `mixture_softmax::log_softmax_block` meets its contract, by what its five calls ensure. Assumes nothing.
use mathlib.Core.Path.{◌∙◌}
use lib.ListN.{length}
use Rattle.mixture_softmax.proofs.Blocks.{logs_done, shares_done}
use Rattle.mixture_softmax.proofs.log_softmax_block.Goals as goal

pub returns : goal.returns
returns c =
    let a = c.args in
    let p = c.requires in
    let m = length a.weights.now in
    let g = c.less_greatests in
    let x = c.exp_front in
    let s = c.less_log_sums-s in
    let y = c.exp_front-2 in (
      s.ensures.0 ∙ logs_done a.k a.rows.now m p.rows_long _ g.new.e x.new.e g.ensures x.ensures
          a.weights.now a.l,
      c.copy.ensures
          ∙ shares_done a.k a.rows.now m p.rows_long _ g.new.e x.new.e g.ensures x.ensures s.new.e
          y.new.e s.ensures.1 y.ensures,
    )
