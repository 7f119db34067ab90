-- `vector::add_scaled` meets its contract.
use mathlib.Core.Path.{sym, ◌∙◌}
use mathlib.Core.List.{◌++◌}
use native.Mathlib.Omega.{arith}
use lib.Ieee.{nan}
use lib.ListN.{drop, length-append, length-take, length-drop}
use Rattle.std.proofs.lemmas.List.{set-append_left, get_or_append_left}
use Rattle.vector.proofs.Vectors.{add_scaled_turn, add_scaled_end}
use Rattle.vector.proofs.add_scaled.Goals as goal

pub loop-j-preserved : goal.loop-j-preserved
loop-j-preserved c =
    let l = c.loop-j in
    let x = c.args in
    let rest = drop c.min-n.result x.row.now in
    rw (← set-append_left l.e-items rest l.j _ (omega arith), ← get_or_append_left l.e-items rest nan l.j (omega arith))
    (add_scaled_turn x.w (l.e-items ++ rest) x.x.now l.j (omega (arith, length-append l.e-items rest))
    (omega (arith, length-take c.min-n.result x.row.now))
    ∙ l.invariant)

pub returns : goal.returns
returns c =
    let l = c.loop-j in
    let x = c.args in
    let n = c.min-n.result in
    let rest = drop n x.row.now in
    sym (add_scaled_end x.w (l.e-items ++ rest) x.x.now l.j
    (omega (arith, length-append l.e-items rest, length-take n x.row.now, length-drop n x.row.now))) ∙ l.invariant
