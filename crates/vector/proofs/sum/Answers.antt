-- `vector::sum` meets its contract: what `accumulate` ensures of the sum from −0, once the literal is computed. Assumes nothing.
use lib.Ieee.{neg, of_bits}
use Rattle.vector.proofs.sum.Goals as goal

pub returns : goal.returns
unfolding neg of_bits
returns c = c.accumulate.ensures
