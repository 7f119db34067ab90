-- `root::root` meets its contract: a case of `root_of` for each answer. Assumes nothing.
use Rattle.std.proofs.Common.{T, List, [], get_or, ap, arith}
use Rattle.std.proofs.lemmas.List.Elements.{All-nil, All-cons}
use lib.Ieee.{Float, nan, of_bits, div}
use lib.Ieee.Positive.{positive}
use Rattle.float.proofs.Tests.{is_positive}
use Rattle.root.proofs.RootOf.{of_zero, of_negative, of_endless}
use Rattle.root.proofs.root.Goals as goal

pub returns-then-x : goal.returns-then-x
unfolding of_bits
returns-then-x c = of_zero c.args.x c.if-x.true

pub returns-then-x-2 : goal.returns-then-x-2
unfolding of_bits div
returns-then-x-2 c = of_negative c.args.x c.if-x-2.true

pub positive_roots-requires : goal.positive_roots-requires
unfolding of_bits div
positive_roots-requires c =
    let p : Float → Type 0 = λ v. T (positive v) in
    let h : p c.args.x = is_positive c.args.x c.if-x.false c.if-x-2.false c.if-x-3.true in
    (omega arith, (omega arith, All-cons p c.args.x [] h (All-nil p)))

pub returns-then-x-3 : goal.returns-then-x-3
unfolding of_bits div
returns-then-x-3 c = ap (λ (l : List Float). get_or l 0 nan) c.positive_roots.ensures

pub returns-else-x-3 : goal.returns-else-x-3
unfolding of_bits div
returns-else-x-3 c = of_endless c.args.x c.if-x-2.false c.if-x-3.false
