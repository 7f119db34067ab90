-- `logarithm::ln` meets its contract: a case of `ln_of` for each answer. Assumes nothing.
use mathlib.Core.Path.{◌∙◌}
use lib.Ieee.{of_bits, div, neg}
use Rattle.float.proofs.Tests.{is_positive}
use Rattle.logarithm.proofs.Logarithm.{of_zero, of_negative, of_positive, of_endless}
use Rattle.logarithm.proofs.ln.Goals.{Then-x-3}
use Rattle.logarithm.proofs.ln.Goals as goal

pub returns-then-x : goal.returns-then-x
unfolding of_bits div neg
returns-then-x c = of_zero c.args.x c.if-x.true

pub returns-then-x-2 : goal.returns-then-x-2
unfolding of_bits div
returns-then-x-2 c = of_negative c.args.x c.if-x.false c.if-x-2.true

pub positive_ln-requires : goal.positive_ln-requires
unfolding of_bits div
positive_ln-requires c = is_positive c.args.x c.if-x.false c.if-x-2.false c.if-x-3.true

pub returns-then-x-3 : goal.returns-then-x-3
unfolding of_bits div
returns-then-x-3 c = c.positive_ln.ensures ∙ of_positive c.args.x (positive_ln-requires (goal.at.returns-then-x-3 c).Then-x-3)

pub returns-else-x-3 : goal.returns-else-x-3
unfolding of_bits div
returns-else-x-3 c = of_endless c.args.x c.if-x-2.false c.if-x-3.false
