-- `root::is_positive` meets its contract: its two tests say what `positive` says, by the cases of a float. Assumes nothing.
use lib.Ieee.{of_bits, div}
use Rattle.float.proofs.Tests.{positive_is}
use Rattle.root.proofs.is_positive.Goals as goal

pub returns : goal.returns
unfolding of_bits div
returns c = positive_is c.args.x
