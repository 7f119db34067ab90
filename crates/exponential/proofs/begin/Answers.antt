-- `exponential::begin` meets its contract, by what `power` ensures; a literal's bit pattern is the whole number. Assumes nothing.
use Rattle.std.proofs.Common.{ap₂}
use lib.Ieee.{Float, of_bits, of_int}
use Rattle.float.specs.Arithmetic.{number}
use Rattle.exponential.specs.Exponential.{left_of}
use Rattle.exponential.specs.declared.Term.{Term}
use Rattle.exponential.proofs.begin.Goals as goal

pub returns : goal.returns
unfolding of_bits of_int
returns c =
    let e = c.power-e.ensures in
    ap₂ {C = Term} (λ (n w : Float). record { r = left_of c.args.x n; p = number 1; w = w }) e.whole e.power
