-- `vector::dot` meets its contract: the dots with one row, which is all of the second vector. Assumes nothing.
use mathlib.Core.Path.{◌≡◌}
use lib.ListN.{length}
use lib.Seq.{take_all}
use native.Mathlib.Omega.{arith}
use native.Mathlib.Nat.{zero-mul}
use Rattle.rows.specs.Rows.{row_of}
use Rattle.rows.specs.Tabulate.{tabulate}
use Rattle.vector.proofs.dot.Goals as goal

pub returns : goal.returns
unfolding tabulate
returns c =
    let b = c.args.b.now in
    let e : row_of b (length b) 0 ≡ b = rw zero-mul (take_all (length b) b (omega arith)) in
    rw (c.dots.ensures, e)
