-- `gamma::lanczos_sum` meets its contract: its steps are those of `lanczos_from`, and a literal's bit pattern is the whole number.
-- Assumes nothing.
use mathlib.Core.Path.{refl}
use lib.Ieee.{of_bits, of_int, neg}
use Rattle.gamma.proofs.lanczos_sum.Goals as goal

pub returns : goal.returns
unfolding of_bits of_int neg
returns c = refl
