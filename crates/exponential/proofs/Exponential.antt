-- The cases of the exponential, each from the tests that lead to it; between the borders, the product of the series and the power of two,
-- or the two products. Assumes nothing.
use mathlib.Core.Path.{◌≡◌, refl, sym, subst}
use mathlib.Core.Bool.{true, false, not, cond}
use Prim.Native.Nat.{ℕ, suc, ◌-◌, ◌<◌}
use borrow.Author.Tests.{lt-ltb}
use lib.Dec.{T, not_T}
use lib.IntN.{ℤ, pos, negsuc, ◌+ℤ◌}
use lib.Ieee.{Float, nan, inf, fin, binary64, mul, lt, le, eq, ne, is_nan, neg, of_int}
use lib.Ieee.Bits.{is_false}
use lib.Ieee.Fits.{and_i, and_l, and_r}
use Rattle.float.specs.Arithmetic.{number, plus_zero}
use Rattle.exponential.specs.Exponential.{floor_of, turns_of, left_of, exp_from, is_low, times_power, exp_by, exp_of}
use Rattle.exponential.specs.Steps.{inside, low, series_of}
use Rattle.float.proofs.Order.{lt_trans, le_trans, le_of_nlt, nlt_of_le, nan_below, no_nan}
use Rattle.float.proofs.Tests.{is_nan_law, is_number, of_true, of_false}

ends : T (not (is_nan (number 709))) × T (not (is_nan (neg (number 708)))) × T (not (is_nan (neg (number 745))))
unfolding of_int neg is_nan
ends = (tt, tt, tt)

-- ---- the cases, y being what stands between the borders
abbrev case_of : Float → Float → Float
case_of x y = cond (is_nan x) nan (cond (lt (number 709) x) (inf false) (cond (lt x (neg (number 745))) plus_zero y))

high_case : (x y : Float) → is_nan x ≡ false → lt (number 709) x ≡ true → inf false ≡ case_of x y
high_case x y h k = rw (h, k)

low_case : (x y : Float) → lt x (neg (number 745)) ≡ true → plus_zero ≡ case_of x y
unfolding lt of_int neg
low_case x y l =
    let h = of_true (lt x (neg (number 745))) l in
    rw (
      is_false (is_nan x) (not_T (is_nan x) (λ n. nan_below x (neg (number 745)) n h)),
      is_false (lt (number 709) x) (not_T (lt (number 709) x) (λ k. lt_trans (number 709) x (neg (number 745)) k h)),
      l,
    )

inner_case : (x y : Float) → T (le (neg (number 745)) x) → T (le x (number 709)) → y ≡ case_of x y
inner_case x y a b =
    rw (
      is_false (is_nan x) (no_nan (neg (number 745)) x a).1,
      is_false (lt (number 709) x) (not_T (lt (number 709) x) (nlt_of_le (number 709) x b)),
      is_false (lt x (neg (number 745))) (not_T (lt x (neg (number 745))) (nlt_of_le x (neg (number 745)) a)),
    )

pub by_nan : (x : Float) → ne x x ≡ true → x ≡ exp_of x
unfolding exp_of is_nan
by_nan x h = subst (λ (z : Float). z ≡ exp_of z) (sym (is_nan_law x h)) refl

pub by_high : (x : Float) → is_nan x ≡ false → lt (number 709) x ≡ true → inf false ≡ exp_of x
unfolding exp_of
by_high x h k = high_case x (exp_by x (floor_of (turns_of x))) h k

-- by this test alone: what is below −745 is no NaN and not above 709
pub by_low : (x : Float) → lt x (neg (number 745)) ≡ true → plus_zero ≡ exp_of x
unfolding exp_of
by_low x l = low_case x (exp_by x (floor_of (turns_of x))) l

pub by_inner : (x : Float) → T (le (neg (number 745)) x) → T (le x (number 709)) → exp_by x (floor_of (turns_of x)) ≡ exp_of x
unfolding exp_of
by_inner x a b = inner_case x (exp_by x (floor_of (turns_of x))) a b

-- ---- which of them a test leads to
pub between_borders : (x : Float) → is_nan x ≡ false → lt (number 709) x ≡ false → lt x (neg (number 745)) ≡ false →
    T (le (neg (number 745)) x) × T (le x (number 709))
between_borders x h k l =
    let n = of_false (is_nan x) h in (
      le_of_nlt x (neg (number 745)) n ends.2 (of_false (lt x (neg (number 745))) l),
      le_of_nlt (number 709) x ends.0 n (of_false (lt (number 709) x) k),
    )

pub is_inside : (x : Float) → ne x x ≡ false → lt (number 709) x ≡ false → lt x (neg (number 708)) ≡ false → T (inside x)
is_inside x h k l =
    let n = of_false (is_nan x) (is_number x h) in
    and_i (le (neg (number 708)) x) (le x (number 709))
    (le_of_nlt x (neg (number 708)) n ends.1 (of_false (lt x (neg (number 708))) l))
    (le_of_nlt (number 709) x ends.0 n (of_false (lt (number 709) x) k))

pub is_low_law : (x : Float) → ne x x ≡ false → lt x (neg (number 708)) ≡ true → lt x (neg (number 745)) ≡ false → T (low x)
is_low_law x h k l =
    and_i (le (neg (number 745)) x) (lt x (neg (number 708)))
    (le_of_nlt x (neg (number 745)) (of_false (is_nan x) (is_number x h)) ends.2 (of_false (lt x (neg (number 745))) l))
    (of_true (lt x (neg (number 708))) k)

pub inside_inner : (x : Float) → T (inside x) → T (le (neg (number 745)) x) × T (le x (number 709))
unfolding le lt eq of_int neg
inside_inner x h =
    let a = and_l (le (neg (number 708)) x) (le x (number 709)) h in
    (le_trans (neg (number 745)) (neg (number 708)) x tt a, and_r (le (neg (number 708)) x) (le x (number 709)) h)

pub low_inner : (x : Float) → T (low x) → T (le (neg (number 745)) x) × T (le x (number 709))
unfolding le lt eq of_int neg
low_inner x h =
    let a = and_l (le (neg (number 745)) x) (lt x (neg (number 708))) h in
    let b = and_r (le (neg (number 745)) x) (lt x (neg (number 708))) h in (
      a,
      le_of_nlt (number 709) x ends.0 (no_nan (neg (number 745)) x a).1
          (not_T (lt (number 709) x) (λ k. lt_trans (number 709) x (neg (number 708)) k b)),
    )

-- ---- the power of two, by one product or by two
pub plus_200 : (i : ℕ) → 200 < suc i → negsuc i +ℤ pos 200 ≡ negsuc (suc i - 201)
plus_200 i h = rw (lt-ltb 200 (suc i) h) refl

pub one_product : (p : Float) (n : ℤ) → is_low n ≡ false → mul binary64 p (fin false 1 n) ≡ times_power p n
unfolding times_power
one_product p n h = rw h

pub two_products : (p : Float) (n : ℤ) → is_low n ≡ true →
    mul binary64 (mul binary64 p (fin false 1 (n +ℤ pos 200))) (fin false 1 (negsuc 199)) ≡ times_power p n
unfolding times_power
two_products p n h = rw h

pub by_whole : (x n w : Float) (k : ℤ) → is_low k ≡ false → n ≡ of_int binary64 k → w ≡ fin false 1 k →
    mul binary64 (series_of x n) w ≡ exp_by x k
unfolding exp_by
by_whole x n w k l p q = rw (p, q) (one_product (exp_from 13 (left_of x (of_int binary64 k)) (number 1)) k l)

pub by_two : (x n w : Float) (k : ℤ) → is_low k ≡ true → n ≡ of_int binary64 k → w ≡ fin false 1 (k +ℤ pos 200) →
    mul binary64 (mul binary64 (series_of x n) w) (fin false 1 (negsuc 199)) ≡ exp_by x k
unfolding exp_by
by_two x n w k l p q = rw (p, q) (two_products (exp_from 13 (left_of x (of_int binary64 k)) (number 1)) k l)
