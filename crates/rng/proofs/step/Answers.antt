-- The sum modulo 2^64 is the definition's.
use Rattle.std.proofs.Common.{refl}
use Rattle.rng.specs.SplitMix.{step_of}
use Rattle.rng.proofs.step.Goals as goal

pub returns : goal.returns
unfolding step_of
returns c = refl
