-- `bessel::ends_at` meets its contract: its three tests are those of `ends_at`, and a literal's bit pattern is the whole number. Assumes nothing.
use mathlib.Core.Path.{refl}
use lib.Ieee.{of_bits, of_int}
use Rattle.bessel.proofs.ends_at.Goals as goal

pub returns : goal.returns
unfolding of_bits of_int
returns c = refl
