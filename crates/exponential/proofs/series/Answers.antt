-- `exponential::series` meets its contract: its 13 steps are those of `exp_from`, and a literal's bit pattern is the whole number. Assumes
-- nothing.
use mathlib.Core.Path.{refl}
use lib.Ieee.{of_bits, of_int}
use Rattle.exponential.specs.Exponential.{exp_from}
use Rattle.exponential.proofs.series.Goals as goal

pub returns : goal.returns
unfolding exp_from of_bits of_int
returns c = refl
