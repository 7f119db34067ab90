-- `exponential::lifted` meets its contract: the rounded sum is 2^52 + b or one more, and the comparison says which. Assumes nothing.
use mathlib.Core.Path.{refl}
use lib.Ieee.{of_bits, of_int}
use Rattle.exponential.proofs.Floor.{takes, keeps}
use Rattle.exponential.proofs.lifted.Goals as goal

pub returns-then-y-s : goal.returns-then-y-s
unfolding of_bits of_int
returns-then-y-s c =
    takes c.args.y c.requires _ refl c.if-y-s.true

pub returns-else-y-s : goal.returns-else-y-s
unfolding of_bits of_int
returns-else-y-s c =
    keeps c.args.y c.requires _ refl c.if-y-s.false
