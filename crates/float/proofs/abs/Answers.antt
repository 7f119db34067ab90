-- `float::abs` meets its contract: each answer is a case of `abs_of`; that x fits is asked at a zero, which is written in one way. Assumes nothing.
use mathlib.Core.Path.{sym, subst}
use lib.Dec.{T}
use lib.Ieee.{of_bits}
use Rattle.float.proofs.Tests.{abs_negative, abs_zero, abs_positive}
use Rattle.float.proofs.abs.Goals as goal

pub returns-then-x : goal.returns-then-x
unfolding of_bits
returns-then-x c = abs_negative c.args.x c.if-x.true

pub returns-then-x-2 : goal.returns-then-x-2
unfolding of_bits
returns-then-x-2 c = abs_zero c.args.x (subst T (sym c.well_formed.0.1) tt) c.if-x-2.true

pub returns-else-x-2 : goal.returns-else-x-2
unfolding of_bits
returns-else-x-2 c = abs_positive c.args.x c.if-x.false c.if-x-2.false
