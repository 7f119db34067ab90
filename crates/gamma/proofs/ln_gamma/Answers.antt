-- `gamma::ln_gamma` meets its contract: the operations of `ln_gamma_at` on what the calls ensure, and the constant is the logarithm of TAU.
-- Assumes nothing.
use lib.Ieee.{of_bits, of_int}
use Rattle.gamma.specs.Gamma.{ln_gamma_of}
use Rattle.gamma.proofs.Tau.{ln_tau}
use Rattle.gamma.proofs.ln_gamma.Goals as goal

pub returns : goal.returns
unfolding ln_gamma_of of_bits of_int
returns c = rw (← ln_tau, c.ln.ensures, c.ln-2.ensures, c.lanczos_sum-a.ensures)
