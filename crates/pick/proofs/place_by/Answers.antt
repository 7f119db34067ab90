-- `pick::place_by` meets its contract.
use mathlib.Core.Path.{sym, ◌∙◌}
use mathlib.Core.Bool.{true, false}
use native.Mathlib.Omega.{arith}
use Rattle.pick.proofs.Places.{place_one, place_turn, place_end}
use Rattle.pick.proofs.place_by.Goals.{then-passes, else-passes}
use Rattle.pick.proofs.place_by.Goals as goal

pub loop-i-init : goal.loop-i-init
loop-i-init g c = (omega arith, omega arith, λ test h. sym (place_one test c.args.v.now))

pub loop-i-preserved : goal.loop-i-preserved
loop-i-preserved g c =
    let v = c.args.v.now in
    let l = c.loop-i in
    let best = c.if-passes.best in (
      omega arith,
      elim c.if-passes.branch [ then-passes w ↦ omega arith | else-passes w ↦ omega arith ],
      λ test h.
          let told = h _ _ _ c.passes.ensures in
          elim c.if-passes.branch [
            | then-passes w ↦ place_turn test v l.best best l.i true (l.invariant.2 test h) (sym w.if-passes.true ∙ told) w.best-is
            | else-passes w ↦ place_turn test v l.best best l.i false (l.invariant.2 test h) (sym w.if-passes.false ∙ told) w.best-is
          ],
    )

pub returns : goal.returns
returns g c =
    λ test h. c.loop-i.invariant.2 test h ∙ place_end test c.args.v.now c.loop-i.i (omega arith)
