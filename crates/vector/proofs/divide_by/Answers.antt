-- `vector::divide_by` meets its contract.
use mathlib.Core.Path.{sym, ◌∙◌}
use native.Mathlib.Omega.{arith}
use lib.ListN.{length-set}
use Rattle.vector.proofs.Vectors.{divide_by_turn, divide_by_end}
use Rattle.vector.proofs.divide_by.Goals as goal

pub loop-e-preserved : goal.loop-e-preserved
loop-e-preserved c =
    let l = c.loop-e in
    (simp length-set l.invariant.0, divide_by_turn c.args.n l.row l.e-index (omega arith) ∙ l.invariant.1)

pub returns : goal.returns
returns c =
    let l = c.loop-e in
    sym (divide_by_end c.args.n l.row l.e-index (omega arith)) ∙ l.invariant.1
