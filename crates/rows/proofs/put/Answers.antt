-- `rows::put` meets its contract.
use mathlib.Core.Path.{refl}
use Rattle.rows.specs.Tabulate.{tabulate}
use Rattle.rows.proofs.Tabulate.{tabulated_turn}
use Rattle.rows.proofs.put.Goals as goal

pub loop-j-init : goal.loop-j-init
unfolding tabulate
loop-j-init g c = λ f h. refl

pub loop-j-preserved : goal.loop-j-preserved
loop-j-preserved g c =
    λ f h.
    let l = c.loop-j in
    let v = c.value.result in
    rw (l.invariant f h) (tabulated_turn f c.args.v.now l.j v v c.loop-j-test.true (h l.j v c.loop-j-test.true c.value.ensures))
