-- `exponential::is_inside` meets its contract: its borders' bit patterns are the whole numbers. Assumes nothing.
use mathlib.Core.Path.{refl}
use lib.Ieee.{of_bits, of_int}
use Rattle.exponential.proofs.is_inside.Goals as goal

pub returns : goal.returns
unfolding of_bits of_int
returns c = refl
