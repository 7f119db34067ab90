-- `mixture_softmax::greatest` meets its contract.
use mathlib.Core.Path.{refl}
use lib.Ieee.{div, of_bits, neg, is_nan}
use Rattle.mixture_softmax.proofs.greatest.Goals as goal

pub loop-x-init : goal.loop-x-init
unfolding div of_bits neg is_nan
loop-x-init c = (refl, refl)
