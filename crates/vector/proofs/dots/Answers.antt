-- `vector::dots` meets its contract.
use native.Mathlib.Omega.{arith}
use lib.Ieee.{neg, of_bits}
use Rattle.vector.proofs.DotTurns.{begun, turn_begun, turned, turn_done, gone}
use Rattle.vector.proofs.dots.Goals as goal

pub loop-j-init : goal.loop-j-init
unfolding neg of_bits
loop-j-init g c = begun c.args.x.now c.args.rows.now c.args.d g.row.N

pub loop-c-init : goal.loop-c-init
loop-c-init g c =
    let a = c.args in turn_begun a.x.now a.rows.now a.d g.row.N c.loop-j.s c.loop-j.j c.loop-j.invariant

pub loop-c-preserved : goal.loop-c-preserved
loop-c-preserved g c =
    let a = c.args in
    turned a.x.now a.rows.now a.d g.row.N c.loop-c.t-items c.loop-j.j c.loop-c.c _ (grind arith) c.requires (omega arith) (omega arith)
    c.loop-c-test.true c.loop-c.invariant

pub loop-j-preserved : goal.loop-j-preserved
loop-j-preserved g c =
    let a = c.args in turn_done a.x.now a.rows.now a.d g.row.N c.loop-c.t-items c.loop-j.j c.loop-c.c (omega arith) c.loop-c.invariant

pub returns : goal.returns
returns g c =
    let a = c.args in gone a.x.now a.rows.now a.d g.row.N c.loop-j.s c.loop-j.j c.requires (omega arith) c.loop-j.invariant
