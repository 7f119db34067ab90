-- What a comparison that came out true or false says of its float: `x != x` of a NaN, and `x < 0` and `x == 0` of the sign and the
-- size, by the cases of a float. Assumes nothing.
use mathlib.Core.Path.{◌≡◌, refl, sym, ap, subst}
use Prim.Native.Nat.{ℕ, zero, suc, ◌+◌, ◌*◌, ◌^◌, ◌≤◌, ◌<◌}
use native.Mathlib.Nat.{mul-pos, zero-lt-suc, pow-suc}
use native.Mathlib.Omega.{arith}
use mathlib.Core.Bool.{Bool, true, false, not, ◌&&◌, ◌||◌, beq, true≢false}
use lib.IntN.{ℤ, pos, negsuc}
use lib.Dec.{T, eqb, eqb→eq, lt→ltb}
use lib.Pow.{pow_pos}
use borrow.Author.Tests.{ltb-true, ltb-false, le-ltb, lt-ltb}
use lib.Ieee.{Float, nan, inf, fin, binary64, up, down, lt, ne, eq, neg, is_nan, fits}
use lib.Ieee.Fits.{and_l, and_i, eq→eqb, up_pos}
use lib.Ieee.Compare.{differs_from_itself}
use lib.Ieee.Positive.{positive}
use Rattle.float.specs.Arithmetic.{plus_zero, abs_of}

pub of_true : (b : Bool) → b ≡ true → T b
of_true b e = subst T (sym e) tt

pub of_false : (b : Bool) → b ≡ false → T (not b)
of_false b e = subst (λ (z : Bool). T (not z)) (sym e) tt

-- ---- x != x
pub is_nan_law : (x : Float) → ne x x ≡ true → x ≡ nan
is_nan_law x h = differs_from_itself x (of_true (ne x x) h)

pub is_number : (x : Float) → ne x x ≡ false → is_nan x ≡ false
unfolding ne eq is_nan
is_number nan e = absurd (true≢false e)
is_number (inf s) e = refl
is_number (fin s m e) h = refl

-- ---- x == 0: a finite x is zero, so no other is one
pub zero_digits : (s : Bool) (m : ℕ) (e : ℤ) → eq (fin s m e) plus_zero ≡ true → m ≡ 0
unfolding eq
zero_digits s zero e h = refl
zero_digits s (suc m) e h =
    absurd (apart (up e) (down e) (up_pos e) (eqb→eq (suc m * up e * 1) (0 * down e) (and_l (eqb (suc m * up e * 1) (0 * down e)) (beq s false || eqb (suc m * up e * 1) 0) (of_true _ h))))
  where
    apart : (b d : ℕ) → 0 < b → suc m * b * 1 ≡ 0 * d → ⊥
    apart b d p q = omega (arith, mul-pos (zero-lt-suc m) p)

-- ---- x < 0
pub not_below : (m : ℕ) (e : ℤ) → lt (fin false m e) plus_zero ≡ true → ⊥
unfolding lt
not_below m e h = clash (m * up e * 1) (down e) (ltb-true (m * up e * 1) (0 * down e) h)
  where
    clash : (a b : ℕ) → a < 0 * b → ⊥
    clash a b q = omega arith

-- a negative one that is not below zero is a zero
pub not_negative : (m : ℕ) (e : ℤ) → lt (fin true m e) plus_zero ≡ false → eq (fin true m e) plus_zero ≡ false → ⊥
unfolding eq lt
not_negative m e q p =
    let l : m * up e * 1 + 0 * down e ≤ 0 = ltb-false 0 (m * up e * 1 + 0 * down e) q in
    let a : m * up e * 1 ≡ 0 * down e = omega arith in
    let b : m * up e * 1 ≡ 0 = omega arith in
    subst T p (and_i (eqb (m * up e * 1) (0 * down e)) (false || eqb (m * up e * 1) 0) (eq→eqb a) (eq→eqb b))

-- both zeros are equal to +0
pub not_zero : (s : Bool) (e : ℤ) → eq (fin s 0 e) plus_zero ≡ false → ⊥
unfolding eq
not_zero true e p =
    let a : 0 * up e * 1 ≡ 0 * down e = omega arith in
    let b : 0 * up e * 1 ≡ 0 = omega arith in
    subst T p (and_i (eqb (0 * up e * 1) (0 * down e)) (false || eqb (0 * up e * 1) 0) (eq→eqb a) (eq→eqb b))
not_zero false e p =
    let a : 0 * up e * 1 ≡ 0 * down e = omega arith in
    subst T p (and_i (eqb (0 * up e * 1) (0 * down e)) (true || eqb (0 * up e * 1) 0) (eq→eqb a) tt)

-- ---- neither, and below the infinity
pub is_positive : (x : Float) → eq x plus_zero ≡ false → lt x plus_zero ≡ false → lt x (inf false) ≡ true → T (positive x)
unfolding lt
is_positive nan p q r = absurd (true≢false (sym r))
is_positive (inf true) p q r = absurd (true≢false q)
is_positive (inf false) p q r = absurd (true≢false (sym r))
is_positive (fin true m e) p q r = absurd (not_negative m e q p)
is_positive (fin false zero e) p q r = absurd (not_zero false e p)
is_positive (fin false (suc m) e) p q r = lt→ltb 0 (suc m) (zero-lt-suc m)

pub positive_is : (x : Float) → (lt plus_zero x && lt x (inf false)) ≡ positive x
unfolding lt
positive_is nan = refl
positive_is (inf true) = refl
positive_is (inf false) = refl
positive_is (fin true m e) = refl
positive_is (fin false zero e) = rw (le-ltb (0 * down e) (0 * up e * 1) (omega arith)) refl
positive_is (fin false (suc m) e) = rw (lt-ltb (0 * down e) (suc m * up e * 1) (omega (arith, mul-pos (zero-lt-suc m) (up_pos e))), lt-ltb 0 (suc m) (zero-lt-suc m)) refl

-- ---- the absolute value: the sign turned round below zero, and +0 for both zeros
pub abs_negative : (x : Float) → lt x plus_zero ≡ true → neg x ≡ abs_of x
unfolding neg abs_of lt
abs_negative nan h = refl
abs_negative (inf true) h = refl
abs_negative (inf false) h = absurd (true≢false (sym h))
abs_negative (fin true m e) h = refl
abs_negative (fin false m e) h = absurd (not_below m e h)

pub zero_place : (s : Bool) (e : ℤ) → T (fits binary64 (fin s 0 e)) → e ≡ pos 0
unfolding fits
zero_place s (pos zero) h = refl
zero_place s (pos (suc k)) h = absurd (clash (eqb→eq (2 ^ suc k * 1) 1 h))
  where
    clash : 2 ^ suc k * 1 ≡ 1 → ⊥
    clash e = omega (arith, pow-suc 2 k, pow_pos k)
zero_place s (negsuc k) h = absurd (clash (eqb→eq (1 * 2 ^ suc k) 1 h))
  where
    clash : 1 * 2 ^ suc k ≡ 1 → ⊥
    clash e = omega (arith, pow-suc 2 k, pow_pos k)

pub abs_zero : (x : Float) → T (fits binary64 x) → eq x plus_zero ≡ true → plus_zero ≡ abs_of x
unfolding abs_of eq
abs_zero nan f h = absurd (true≢false (sym h))
abs_zero (inf s) f h = absurd (true≢false (sym h))
abs_zero (fin s zero e) f h = ap (fin false 0) (sym (zero_place s e f))
abs_zero (fin s (suc m) e) f h = absurd (some m (zero_digits s (suc m) e h))
  where
    some : (m : ℕ) → suc m ≡ 0 → ⊥
    some m e = omega arith

pub abs_positive : (x : Float) → lt x plus_zero ≡ false → eq x plus_zero ≡ false → x ≡ abs_of x
unfolding abs_of lt
abs_positive nan q p = refl
abs_positive (inf true) q p = absurd (true≢false q)
abs_positive (inf false) q p = refl
abs_positive (fin true m e) q p = absurd (not_negative m e q p)
abs_positive (fin false m e) q p = refl
