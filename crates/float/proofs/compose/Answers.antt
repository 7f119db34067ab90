-- `float::compose` meets its contract: 53 digits and an exponent put side by side are the pattern of that number. Assumes nothing.
use Rattle.float.proofs.Assemble.{composed, composed_no_nan}
use Rattle.float.proofs.compose.Goals as goal

pub float_from_bits-result : goal.float_from_bits-result
float_from_bits-result c = composed_no_nan c.args.y c.args.k c.requires.0 c.requires.1 c.requires.2

pub returns : goal.returns
returns c = composed c.args.y c.args.k c.requires.0 c.requires.1 c.requires.2
