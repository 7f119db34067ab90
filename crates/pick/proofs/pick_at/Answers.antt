-- `pick::pick_at` meets its contract.
use mathlib.Core.Path.{◌≡◌, ◌∙◌}
use Prim.Native.Nat.{◌-◌}
use native.Mathlib.Omega.{arith}
use lib.Ieee.{of_bits}
use Rattle.pick.proofs.Places.{pick_found, pick_turn, pick_end}
use Rattle.pick.proofs.pick_at.Goals as goal

pub returns-then-t : goal.returns-then-t
unfolding of_bits
returns-then-t c =
    pick_found c.loop-i.t c.args.w.now c.loop-i.i (omega arith) c.if-t.true ∙ c.loop-i.invariant

pub loop-i-preserved : goal.loop-i-preserved
unfolding of_bits
loop-i-preserved c =
    pick_turn c.loop-i.t c.args.w.now c.loop-i.i (omega arith) c.if-t.false ∙ c.loop-i.invariant

pub returns : goal.returns
returns c =
    let e : c.saturating_sub.result ≡ c.loop-i.i - 1 = omega arith in
    e ∙ pick_end c.loop-i.t c.args.w.now c.loop-i.i (omega arith) ∙ c.loop-i.invariant
