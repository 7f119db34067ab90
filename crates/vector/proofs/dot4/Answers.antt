-- `vector::dot4` meets its contract.
use native.Mathlib.Omega.{arith}
use lib.Ieee.{neg, of_bits}
use Rattle.vector.proofs.Fours.{four_begun, four_going, four_gone}
use Rattle.vector.proofs.dot4.Goals as goal

pub loop-j-init : goal.loop-j-init
unfolding neg of_bits
loop-j-init c =
    let x = c.args in four_begun x.x.now x.p.now x.q.now x.r.now x.s.now c.requires

pub loop-j-preserved : goal.loop-j-preserved
loop-j-preserved c =
    let x = c.args in
    let l = c.loop-j in
    four_going x.x.now x.p.now x.q.now x.r.now x.s.now l.a l.b l.c l.e l.j (omega arith) l.invariant

pub returns : goal.returns
returns c =
    let x = c.args in
    let l = c.loop-j in
    four_gone x.x.now x.p.now x.q.now x.r.now x.s.now l.a l.b l.c l.e l.j (omega arith) l.invariant
