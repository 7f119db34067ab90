-- `mixture_softmax::exp_front` meets its contract.
use mathlib.Core.Path.{◌≡◌}
use Prim.Native.Nat.{◌+◌, ◌-◌}
use native.Mathlib.Omega.{arith}
use Rattle.rows.specs.Rows.{put_part}
use Rattle.mixture_softmax.proofs.Softmax.{exps_to, exps_twice, exps_end}
use Rattle.mixture_softmax.proofs.exp_front.Goals.{After-exp_eight-in-loop-j}
use Rattle.mixture_softmax.proofs.exp_front.Goals as goal

-- what the two calls of a turn leave
turn : (c : After-exp_eight-in-loop-j) → let l = c.loop-j in
    let j = l.j in
    let n = j + 8 - j in
    let m = j + 16 - (j + 8) in
    put_part (put_part l.e j n c.exp_eight.new.e) (j + 8) m c.exp_eight-in-loop-j.new.e ≡ exps_to c.args.e.now (j + 16)
turn c =
    let l = c.loop-j in
    let j = l.j in
    let x = c.exp_eight in
    let y = c.exp_eight-in-loop-j in
    exps_twice c.args.e.now l.e j (omega (arith, c.loop-j-test.true, c.requires)) l.invariant.1 (j + 8 - j) (j + 16 - (j + 8)) x.new.e
    y.new.e (omega arith) (omega arith) x.ensures y.ensures

pub loop-j-preserved : goal.loop-j-preserved
loop-j-preserved c = (omega arith, turn (goal.at.loop-j-preserved c).After-exp_eight-in-loop-j)

pub returns-2 : goal.returns-2
returns-2 c =
    let a = c.args in
    exps_end a.e.now _ (c.loop-j.j + 16) (omega (arith, c.loop-j-test.true, c.requires))
    (turn (goal.at.returns-2 c).After-exp_eight-in-loop-j) a.n (omega arith)
