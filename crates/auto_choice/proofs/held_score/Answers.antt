-- `auto_choice::held_score` meets its contract: 1 over 0 is +infinity. Assumes nothing.
use lib.Ieee.{of_bits, div}
use Rattle.auto_choice.proofs.held_score.Goals as goal

pub returns-in-None : goal.returns-in-None
unfolding div of_bits
returns-in-None c = rw c.in-None.is
