-- `mixture_run::maximization::even_weight` meets its contract: both sides are one term once the constants are computed. Assumes nothing.
use mathlib.Core.Path.{refl}
use lib.Ieee.{of_bits, of_int}
use Rattle.mixture_run.proofs.maximization.even_weight.Goals as goal

pub returns : goal.returns
unfolding of_bits of_int
returns c = refl
