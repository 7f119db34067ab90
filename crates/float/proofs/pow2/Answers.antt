-- `float::pow2` meets its contract: the pattern with this exponent field and no digits is a power of two. Assumes nothing.
use Rattle.float.proofs.Pattern.{power, power_no_nan}
use Rattle.float.proofs.pow2.Goals as goal

pub float_from_bits-result : goal.float_from_bits-result
float_from_bits-result c = power_no_nan c.args.n c.requires.0 c.requires.1

pub returns : goal.returns
returns c = power c.args.n c.requires.0 c.requires.1
