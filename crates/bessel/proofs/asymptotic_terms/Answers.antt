-- `bessel::asymptotic_terms` meets its contract: its operations are those of `terms_of`, and a literal's bit pattern is the whole number. Assumes nothing.
use mathlib.Core.Path.{refl}
use lib.Ieee.{of_bits, of_int}
use Rattle.bessel.proofs.asymptotic_terms.Goals as goal

pub returns : goal.returns
unfolding of_bits of_int
returns c = refl
