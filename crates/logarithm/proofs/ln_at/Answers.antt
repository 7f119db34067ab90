-- `logarithm::ln_at` meets its contract: its steps are those of `ln_from`, and a literal's bit pattern is the whole number. Assumes nothing.
use mathlib.Core.Path.{refl}
use lib.Ieee.{of_bits, of_int}
use Rattle.logarithm.specs.Logarithm.{ln_at, ln_from}
use Rattle.logarithm.proofs.ln_at.Goals as goal

pub returns : goal.returns
unfolding ln_at ln_from of_bits of_int
returns c = refl
