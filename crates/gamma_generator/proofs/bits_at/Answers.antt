-- `gamma_generator::bits_at` meets its contract: the operations of `ln_gamma_half` on what the calls ensure. Assumes nothing.
use lib.Ieee.{of_bits, of_int}
use Rattle.gamma_generator.proofs.bits_at.Goals as goal

pub returns : goal.returns
unfolding of_bits of_int
returns c = rw (c.bits_of.ensures, c.ln_gamma.ensures)
