-- `mixture_softmax::less_greatests` meets its contract.
use mathlib.Core.Path.{ap, ◌∙◌}
use Prim.Native.Nat.{◌+◌, ◌*◌, ◌-◌}
use native.Mathlib.Omega.{arith}
use Rattle.mixture_softmax.specs.Blocks.{from_greatest, from_greatest_at}
use Rattle.mixture_softmax.proofs.Joined.{joined_none}
use Rattle.mixture_softmax.proofs.Blocks.{greatests_turn}
use Rattle.mixture_softmax.proofs.less_greatests.Goals as goal

pub loop-i-init : goal.loop-i-init
loop-i-init c =
    let a = c.args in
    joined_none (from_greatest_at a.k a.rows.now) a.k a.e.now

pub loop-i-preserved : goal.loop-i-preserved
loop-i-preserved c =
    let l = c.loop-i in
    let a = c.args in
    let g = c.less_greatest in
    greatests_turn a.k a.rows.now a.m c.requires.rows_long a.e.now l.e g.new.e l.i
    (l.i * a.k + a.k - l.i * a.k) c.loop-i-test.true (omega arith) l.invariant
    (g.ensures ∙ ap from_greatest c.row.ensures)
