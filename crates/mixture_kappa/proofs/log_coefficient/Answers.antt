-- `mixture_kappa::log_coefficient` meets its contract: the logarithm of the weight, which is kept from 0, and the normalizer. Assumes
-- nothing.
use lib.Ieee.{of_bits}
use Rattle.mixture_kappa.proofs.log_coefficient.Goals as goal

pub returns : goal.returns
unfolding of_bits
returns c = rw (c.ln.ensures, c.max.ensures)
