-- `bessel::term_after` meets its contract: the operations of `term_after` on what the two logarithms ensure. Assumes nothing.
use lib.Ieee.{of_bits, of_int}
use Rattle.bessel.proofs.term_after.Goals as goal

pub returns : goal.returns
unfolding of_bits of_int
returns c = rw (c.ln.ensures, c.ln-2.ensures)
