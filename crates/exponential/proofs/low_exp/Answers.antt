-- `exponential::low_exp` meets its contract: b is the field of 2^(n + 200), and it says whether n is under −1021. Assumes nothing.
use native.Mathlib.Omega.{arith}
use lib.Ieee.{of_bits, of_int}
use Rattle.exponential.proofs.Floor.{lifted_number, field_within}
use Rattle.exponential.proofs.Low.{low_whole, low_field, low_two, low_one}
use Rattle.exponential.proofs.low_exp.Goals as goal

pub lifted-u-requires : goal.lifted-u-requires
unfolding of_bits of_int
lifted-u-requires c = (low_whole c.args.x c.requires).span

pub float_to_bits-b : goal.float_to_bits-b
float_to_bits-b c = lifted_number _ c.lifted-u.result c.lifted-u.ensures

pub pow2-requires : goal.pow2-requires
pow2-requires c =
    let l = c.lifted-u in
    field_within _ l.result l.ensures

pub returns-then-b-lt202 : goal.returns-then-b-lt202
unfolding of_bits of_int
returns-then-b-lt202 c =
    low_two c.args.x c.lifted-u.result c.requires c.lifted-u.ensures _ _
    c.series-p.ensures c.pow2.ensures c.if-b-lt202.true

pub pow2-requires-2 : goal.pow2-requires-2
unfolding of_bits of_int
pow2-requires-2 c =
    let f = low_field c.args.x c.lifted-u.result c.requires c.lifted-u.ensures in
    (omega arith, omega arith)

pub returns : goal.returns
unfolding of_bits of_int
returns c =
    low_one c.args.x c.lifted-u.result c.requires c.lifted-u.ensures _ _
    c.series-p.ensures c.pow2-2.ensures c.if-b-lt202.false
