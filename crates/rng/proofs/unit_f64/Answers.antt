-- The f64 that the code divides by is 2^53 as the definition makes it: the two compute to one.
use Rattle.std.proofs.Common.{refl}
use lib.Ieee.{div, of_int, of_bits}
use Rattle.rng.specs.SplitMix.{unit_of}
use Rattle.rng.proofs.unit_f64.Goals as goal

pub returns : goal.returns
unfolding div unit_of of_int of_bits
returns c = refl
