-- `vector::fold` meets its contract: what `accumulate` ensures of the sum from +0, once the literal is computed. Assumes nothing.
use lib.Ieee.{of_bits}
use Rattle.vector.proofs.fold.Goals as goal

pub returns : goal.returns
unfolding of_bits
returns c = c.accumulate.ensures
