-- `limits::weights_ok` meets its contract: the two limits are the constants, computed. Assumes nothing.
use lib.Ieee.{of_int, of_bits}
use Rattle.limits.proofs.weights_ok.Goals as goal

pub returns : goal.returns
unfolding of_int of_bits
returns c = c.all_within.ensures
