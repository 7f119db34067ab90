-- `mixture_kappa::log_norm_from` meets its contract: the normalizer of the concentration, which is kept from 0. Assumes nothing.
use lib.Ieee.{of_bits}
use Rattle.mixture_kappa.proofs.log_norm_from.Goals as goal

pub returns : goal.returns
unfolding of_bits
returns c = rw (← c.max.ensures) c.log_norm.ensures
