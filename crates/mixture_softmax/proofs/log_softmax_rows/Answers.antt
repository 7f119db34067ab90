-- `mixture_softmax::log_softmax_rows` meets its contract.
use mathlib.Core.Path.{◌≡◌, refl, ap, ◌∙◌}
use mathlib.Core.List.{◌++◌}
use Prim.Native.Nat.{ℕ, ◌+◌, ◌*◌, ◌-◌, ◌/◌, ◌≤◌}
use native.Mathlib.Nat.{le_trans, mul-le-mul_right, div-mul-le_self}
use native.Mathlib.Omega.{arith}
use lib.ListN.{length, drop}
use lib.Ieee.{of_bits}
use Rattle.float.specs.Arithmetic.{plus_zero}
use Rattle.rows.specs.Rows.{put_part}
use Rattle.mixture_softmax.specs.Leaves.{log_sum_at, shares_at, shares_up_to, logs_up_to}
use Rattle.mixture_softmax.proofs.Joined.{joined_none, weighed_none}
use Rattle.rows.proofs.Fills.{front_end}
use Rattle.mixture_softmax.proofs.Blocks.{block_of, shares_more, logs_more}
use Rattle.mixture_softmax.proofs.log_softmax_rows.Goals.{After-min-end, After-log_softmax_block-l}
use Rattle.mixture_softmax.proofs.log_softmax_rows.Goals as goal

pub loop-i-init : goal.loop-i-init
unfolding of_bits
loop-i-init c =
    let a = c.args in (
      omega arith,
      weighed_none (log_sum_at a.k a.rows.now) a.weights.now plus_zero,
      joined_none (shares_at a.k a.rows.now) a.k a.rows.now,
    )

-- where a block ends: it has 256 elements at most
ends : (c : After-min-end) → let i = c.loop-i.i in
    let end = c.min-end.result in
    let k = c.args.k in (end ≡ i + (end - i)) × (end ≤ length c.args.weights.now) × ((end - i) * k ≤ 256)
ends c =
    let i = c.loop-i.i in
    let end = c.min-end.result in
    let k = c.args.k in
    let h : end - i ≤ 256 / k = omega (arith, c.min-end.ensures) in
    let small : (end - i) * k ≤ 256 = le_trans (mul-le-mul_right k h) (div-mul-le_self 256 k) in
    (omega (arith, c.min-end.ensures, c.loop-i-test.true), omega (arith, c.min-end.ensures), small)

pub log_softmax_block-l-requires : goal.log_softmax_block-l-requires
log_softmax_block-l-requires c =
    let l = c.loop-i in
    let r = c.min-end.result in
    let a = c.args in
    let e = ends (goal.at.log_softmax_block-l-requires c).After-min-end in
    block_of a.k a.rows.now a.weights.now (length a.weights.now) c.requires.rows_long l.i (r - l.i) r e.0 e.1 refl l.rows l.auto.rows e.2

-- what a turn leaves, whose block ends at n
turn : (c : After-log_softmax_block-l) (n : ℕ) → c.min-end.result ≡ n → let a = c.args in
    let at = c.loop-i.i * a.k in
    let x = c.log_softmax_block-l in
    (x.result ≡ logs_up_to a.k a.rows.now a.weights.now plus_zero n)
    × (put_part c.loop-i.rows at (c.min-end.result * a.k - at) x.new.rows ≡ shares_up_to a.k a.rows.now n ++ drop (n * a.k) a.rows.now)
turn c n is =
    let x = c.log_softmax_block-l in
    let l = c.loop-i in
    let r = c.min-end.result in
    let a = c.args in
    let m = length a.weights.now in
    let e = ends (goal.at.After-log_softmax_block-l c).After-min-end in (
      logs_more a.k a.rows.now a.weights.now m c.requires.rows_long l.i (r - l.i) r e.0 e.1 refl l.rows l.invariant.2 plus_zero
          l.l l.invariant.1 x.result x.ensures.0
          ∙ ap (logs_up_to a.k a.rows.now a.weights.now plus_zero) is,
      shares_more a.k a.rows.now a.weights.now m c.requires.rows_long l.i (r - l.i) r e.0 e.1 refl l.rows l.invariant.2
          x.new.rows x.ensures.1
          ∙ ap (λ (n : ℕ). shares_up_to a.k a.rows.now n ++ drop (n * a.k) a.rows.now) is,
    )

pub loop-i-preserved : goal.loop-i-preserved
loop-i-preserved c =
    let n = c.loop-i.i + 256 / c.args.k in
    let t = turn (goal.at.loop-i-preserved c).After-log_softmax_block-l n (omega (arith, c.min-end.ensures)) in
    (omega arith, t.0, t.1)

pub returns-2 : goal.returns-2
returns-2 c =
    let a = c.args in
    let m = length a.weights.now in
    let t = turn (goal.at.returns-2 c).After-log_softmax_block-l m (omega (arith, c.min-end.ensures)) in
    (t.0, t.1 ∙ front_end (shares_up_to a.k a.rows.now m) a.rows.now (m * a.k) c.requires.rows_long)
