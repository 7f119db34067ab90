-- `exponential::exp` meets its contract: a case of `exp_of` for each answer. Assumes nothing.
use mathlib.Core.Path.{◌∙◌}
use lib.Ieee.{of_bits, of_int, div}
use Rattle.float.proofs.Tests.{is_number}
use Rattle.exponential.proofs.Exponential.{by_nan, by_high, by_low, by_inner, is_low_law, low_inner, is_inside, inside_inner}
use Rattle.exponential.proofs.exp.Goals.{Else-x-3, Else-x-4}
use Rattle.exponential.proofs.exp.Goals as goal

pub returns-then-x : goal.returns-then-x
returns-then-x c = by_nan c.args.x c.if-x.true

pub returns-then-x-2 : goal.returns-then-x-2
unfolding div of_bits of_int
returns-then-x-2 c = let x = c.args.x in by_high x (is_number x c.if-x.false) c.if-x-2.true

pub returns-then-x-4 : goal.returns-then-x-4
unfolding of_bits of_int
returns-then-x-4 c = by_low c.args.x c.if-x-4.true

pub low_exp-requires : goal.low_exp-requires
unfolding of_bits of_int
low_exp-requires c =
    is_low_law c.args.x c.if-x.false c.if-x-3.true c.if-x-4.false

pub returns-then-x-3 : goal.returns-then-x-3
returns-then-x-3 c =
    let x = c.args.x in
    let b = low_inner x (low_exp-requires (goal.at.returns-then-x-3 c).Else-x-4) in
    c.low_exp.ensures ∙ by_inner x b.0 b.1

pub inner_exp-requires : goal.inner_exp-requires
unfolding of_bits of_int
inner_exp-requires c =
    is_inside c.args.x c.if-x.false c.if-x-2.false c.if-x-3.false

pub returns : goal.returns
returns c =
    let x = c.args.x in
    let b = inside_inner x (inner_exp-requires (goal.at.returns c).Else-x-3) in
    c.inner_exp.ensures ∙ by_inner x b.0 b.1
