-- The logarithm from the parts of a positive float, and the cases of `ln_of`; with the theorem that x is 2^e·f exactly, and 1 ≤ f < 2, for the e and f of the definition.
-- Each is a cross-multiplication in units of 2^−1074. Assumes nothing.
use mathlib.Core.Path.{◌≡◌, refl, sym, ap, ap₂, ◌∙◌, subst}
use mathlib.Core.Logic.{inl, inr}
use Prim.Native.Nat.{ℕ, zero, suc, ◌+◌, ◌-◌, ◌*◌, ◌^◌, ◌≤◌, ◌<◌}
use native.Mathlib.Nat.{mul_assoc, mul_comm, mul_left_comm, mul_right_comm, one-mul, mul-pos, mul-le-mul_left, mul-lt-mul_of_pos_right, le_of_mul-le-mul_right, lt_of_mul-lt-mul_right, eq_of_mul-eq-mul_right, lt_of_lt_of_le, zero-lt-suc}
use native.Mathlib.Omega.{arith}
use mathlib.Core.Bool.{true, false, true≢false}
use lib.IntN.{ℤ, pos, negsuc, ◌+ℤ◌}
use lib.Dec.{T, lit≤}
use lib.Pow.{pow_pos, pow_mono, pow-add}
use borrow.Author.Tests.{lt-ltb, le-ltb, lt-leb, le-leb}
use lib.Ieee.{Float, nan, inf, fin, binary64, up, down, minus, round, sub, mul, lt, eq, of_int, size, fits}
use lib.Ieee.Digits.{size-lt, size-le, size_reaches, minus_val}
use lib.Ieee.Exact.{HasValue, round_exact}
use lib.Ieee.Positive.{num, den, den_pos, positive, positive_of_value, value→cross}
use lib.Ieee.Scale.{round_same}
use Rattle.float.specs.Arithmetic.{f64, number, plus_zero}
use Rattle.float.specs.Parts.{units_of, SplitOf, value_of}
use Rattle.logarithm.specs.Logarithm.{exponent_of, fraction_of, ln_at, ln_by, ln_of}
use Rattle.float.proofs.Order.{lt_or_ge}
use Rattle.float.proofs.Pattern.{minus_same}
use Rattle.float.proofs.Whole.{sub_whole}
use Rattle.float.proofs.Tests.{zero_digits, not_below, not_zero}
use Rattle.float.proofs.Rounding.{size_gt}
use Rattle.float.proofs.Units.{parts_of, places}
use Rattle.float.proofs.Parts.{in_whole, units_whole, units_digits, units_split, units_size}

-- ---- one more than a − b
minus_next : (a b : ℕ) → minus a b +ℤ pos 1 ≡ minus (a + 1) b
minus_next a b = elim (lt_or_ge a b) [
  | inr l ↦
      let e : a - b + 1 ≡ a + 1 - b = omega arith in
      rw (le-leb b a l, le-leb b (a + 1) (omega arith)) (ap pos e)
  | inl l ↦ elim (lt_or_ge (a + 1) b) [
    | inl k ↦
        let j = b - suc a in
        let e : suc j - suc 1 ≡ b - suc (a + 1) = omega arith in
        rw (lt-leb b a l, lt-leb b (a + 1) k, lt-ltb 1 (suc j) (omega arith)) (ap negsuc e)
    | inr k ↦
        let j = b - suc a in
        let e : 1 - suc j ≡ a + 1 - b = omega arith in
        rw (lt-leb b a l, le-leb b (a + 1) k, le-ltb 1 (suc j) (omega arith)) (ap pos e)
  ]
]

-- ---- the parts of a float that is split
by_above : (n : ℤ) (f : Float) → lt (f64 0x3FF6A09E667F3BCD) f ≡ true → ln_at (of_int binary64 (n +ℤ pos 1)) (mul binary64 f (f64 0x3FE0000000000000)) ≡ ln_by n f
unfolding ln_by
by_above n f h = rw h

by_rest : (n : ℤ) (f : Float) → lt (f64 0x3FF6A09E667F3BCD) f ≡ false → ln_at (of_int binary64 n) f ≡ ln_by n f
unfolding ln_by
by_rest n f h = rw h

module _ (x : Float) (h : T (fits binary64 x)) (p : T (positive x)) (m e : ℕ) (s : SplitOf x m e) where
  exponent_is : exponent_of x ≡ minus (e + 1) 1075
  unfolding exponent_of
  exponent_is = ap (λ (n : ℕ). minus n 1075) (units_size x (in_whole x p h) m e s)

  less : minus e 1074 ≡ exponent_of x
  less = minus_same e 1074 (e + 1) 1075 (omega arith) ∙ sym exponent_is

  more : minus e 1073 ≡ exponent_of x +ℤ pos 1
  more = minus_same e 1073 (e + 1 + 1) 1075 (omega arith) ∙ sym (ap (λ (n : ℤ). n +ℤ pos 1) exponent_is ∙ minus_next (e + 1) 1075)

  small : e ≤ 2 ^ 53
  small = omega (arith, s.high)

  fraction_is : value_of m 1022 ≡ fraction_of x
  unfolding fraction_of
  fraction_is =
      let one : e + 1 - 1 ≡ e = omega arith in
      round_same binary64 false (m * 2 ^ 1022) (2 ^ 1074) (units_of x) (2 ^ e) (pow_pos 1074) (pow_pos e)
      (mul_right_comm m (2 ^ 1022) (2 ^ e) ∙ ap (λ (z : ℕ). z * 2 ^ 1022) (sym (units_split x (in_whole x p h) m e s)) ∙ mul_assoc (units_of x) (2 ^ 52) (2 ^ 1022))
      ∙ ap (λ (n : ℕ). round binary64 false (units_of x) (2 ^ n)) (sym (ap (λ (n : ℕ). n - 1) (units_size x (in_whole x p h) m e s) ∙ one))

  pub ln_above : (f : Float) → f ≡ value_of m 1022 → lt (f64 0x3FF6A09E667F3BCD) f ≡ true
      → ln_at (sub binary64 (number e) (number 1073)) (mul binary64 f (f64 0x3FE0000000000000)) ≡ ln_by (exponent_of x) (fraction_of x)
  ln_above f q t =
      ap (λ (k : Float). ln_at k (mul binary64 f (f64 0x3FE0000000000000))) (sub_whole binary64 e 1073 small (lit≤ tt) ∙ ap (of_int binary64) more)
      ∙ by_above (exponent_of x) f t ∙ ap (ln_by (exponent_of x)) (q ∙ fraction_is)

  pub ln_rest : (f : Float) → f ≡ value_of m 1022 → lt (f64 0x3FF6A09E667F3BCD) f ≡ false
      → ln_at (sub binary64 (number e) (number 1074)) f ≡ ln_by (exponent_of x) (fraction_of x)
  ln_rest f q t =
      ap (λ (k : Float). ln_at k f) (sub_whole binary64 e 1074 small (lit≤ tt) ∙ ap (of_int binary64) less)
      ∙ by_rest (exponent_of x) f t ∙ ap (ln_by (exponent_of x)) (q ∙ fraction_is)

-- ---- the cases of `ln_of`
pub of_zero : (x : Float) → eq x plus_zero ≡ true → inf true ≡ ln_of x
unfolding eq ln_of
of_zero nan h = absurd (true≢false (sym h))
of_zero (inf s) h = absurd (true≢false (sym h))
of_zero (fin s zero e) h = refl
of_zero (fin s (suc m) e) h = absurd (some (zero_digits s (suc m) e h))
  where
    some : suc m ≡ 0 → ⊥
    some q = omega arith

pub of_negative : (x : Float) → eq x plus_zero ≡ false → lt x plus_zero ≡ true → nan ≡ ln_of x
unfolding lt ln_of
of_negative nan p h = refl
of_negative (inf true) p h = refl
of_negative (inf false) p h = absurd (true≢false (sym h))
of_negative (fin true zero e) p h = absurd (not_zero true e p)
of_negative (fin true (suc m) e) p h = refl
of_negative (fin false m e) p h = absurd (not_below m e h)

pub of_positive : (x : Float) → T (positive x) → ln_by (exponent_of x) (fraction_of x) ≡ ln_of x
unfolding ln_of
of_positive nan p = absurd p
of_positive (inf s) p = absurd p
of_positive (fin true m e) p = absurd p
of_positive (fin false zero e) p = absurd p
of_positive (fin false (suc m) e) p = refl

pub of_endless : (x : Float) → lt x plus_zero ≡ false → lt x (inf false) ≡ false → x ≡ ln_of x
unfolding lt ln_of
of_endless nan q r = refl
of_endless (inf true) q r = absurd (true≢false q)
of_endless (inf false) q r = refl
of_endless (fin s m e) q r = absurd (true≢false r)

-- ---- x is 2^n·f, and 1 ≤ f < 2: 2^n is the fraction up n / down n, x and f are num / den
pub record TwoParts (x : Float) (n : ℤ) (f : Float) : Type 0 where
  pub finite_part : T (positive f)
  pub least : den f ≤ num f
  pub most : num f < 2 * den f
  pub value : num x * down n * den f ≡ num f * up n * den x

-- A / B is U / Q, N / D is U / P, and u / w is P / Q
cross : (A B N D u w U P Q : ℕ) → 0 < Q * P → A * Q ≡ U * B → N * P ≡ U * D → u * Q ≡ P * w → A * w * D ≡ N * u * B
cross A B N D u w U P Q c h g k =
    let a : A * w * D * (Q * P) ≡ A * Q * (P * w * D) = simp (mul_assoc, mul_comm, mul_left_comm) in
    let b : A * Q * (P * w * D) ≡ U * B * (u * Q * D) = ap₂ (λ (y z : ℕ). y * (z * D)) h (sym k) in
    let d : U * B * (u * Q * D) ≡ U * D * (B * (u * Q)) = simp (mul_assoc, mul_comm, mul_left_comm) in
    let e : U * D * (B * (u * Q)) ≡ N * P * (B * (u * Q)) = ap (λ (z : ℕ). z * (B * (u * Q))) (sym g) in
    let f : N * P * (B * (u * Q)) ≡ N * u * B * (Q * P) = simp (mul_assoc, mul_comm, mul_left_comm) in
    eq_of_mul-eq-mul_right (Q * P) c (A * w * D) (N * u * B) (a ∙ b ∙ d ∙ e ∙ f)

around : (a b : ℕ) → a * 2 * b ≡ 2 * b * a
around a b = simp (mul_assoc, mul_comm)

-- the leading place P of a U above zero
abbrev leading : ℕ → ℕ
leading U = 2 ^ (size U - 1)

module _ (U : ℕ) (p : 0 < U) where
  some : 0 < size U
  some = size_gt U 0 p

  twice : 2 ^ size U ≡ leading U * 2
  twice = let e : size U ≡ size U - 1 + 1 = omega (arith, some) in ap (λ (z : ℕ). 2 ^ z) e ∙ pow-add 2 (size U - 1) 1

  leads : leading U ≤ U
  leads = size_reaches U (size U - 1) (omega (arith, some))

  under : U < leading U * 2
  under = subst (λ (z : ℕ). U < z) twice (size-lt U)

  -- 2^(size − 1075) is P / 2^1074
  scale : up (minus (size U) 1075) * 2 ^ 1074 ≡ leading U * down (minus (size U) 1075)
  scale =
      let n = minus (size U) 1075 in
      let v : 1 * up n * 2 ^ 1075 ≡ 1 * 2 ^ size U * down n = minus_val 1 (size U) 1075 in
      half (up n) (2 ^ 1074) (leading U) (down n)
      (mul_assoc (up n) (2 ^ 1074) 2 ∙ ap (λ (z : ℕ). z * 2 ^ 1075) (sym (one-mul (up n))) ∙ v ∙ ap (λ (z : ℕ). z * down n) (one-mul (2 ^ size U) ∙ twice))
    where
      half : (a b c d : ℕ) → a * b * 2 ≡ c * 2 * d → a * b ≡ c * d
      half a b c d e = eq_of_mul-eq-mul_right 2 (pow_pos 1) (a * b) (c * d) (e ∙ mul_right_comm c 2 d)

  -- U / P is exact, for a U of at most 53 digits with j places below them
  exact_at : (q k : ℕ) → U ≡ q * 2 ^ k → q < 2 ^ 53 → HasValue (round binary64 false U (leading U)) false U (leading U)
  exact_at q k h s =
      let w : size U ≤ 53 + k = size-le U (53 + k) (subst (λ (z : ℕ). z < 2 ^ (53 + k)) (sym h) (rw (pow-add 2 53 k) (mul-lt-mul_of_pos_right s (pow_pos k)))) in
      let j = k + 1074 - (size U - 1) in
      let e : k + 1074 ≡ j + (size U - 1) = omega arith in
      let g : U * 2 ^ 1074 ≡ q * 2 ^ j * leading U =
      ap (λ (z : ℕ). z * 2 ^ 1074) h ∙ mul_assoc q (2 ^ k) (2 ^ 1074) ∙ ap (λ (z : ℕ). q * z) (sym (pow-add 2 k 1074) ∙ ap (λ (z : ℕ). 2 ^ z) e ∙ pow-add 2 j (size U - 1)) ∙ sym (mul_assoc q (2 ^ j) (leading U)) in
      let l : q * 2 ^ j * leading U < 2 ^ 1075 * leading U = subst (λ (z : ℕ). z < 2 ^ 1075 * leading U) g (subst (λ (z : ℕ). U * 2 ^ 1074 < z) (around (leading U) (2 ^ 1074)) (mul-lt-mul_of_pos_right under (pow_pos 1074))) in
      round_exact binary64 false U (leading U) q j (pow_pos (size U - 1)) s (lt_of_lt_of_le (lt_of_mul-lt-mul_right (leading U) l) (pow_mono {i = 1075} {j = 2098} (lit≤ tt))) g

  two_parts : (x F : Float) → HasValue F false U (leading U) → U * den x ≡ num x * 2 ^ 1074 → TwoParts x (minus (size U) 1075) F
  two_parts x F v u =
      let n = minus (size U) 1075 in
      let c : num F * leading U ≡ U * den F = value→cross F U (leading U) v in
      let P = pow_pos (size U - 1) in
      record {
        finite_part = positive_of_value F U (leading U) v p;
        least = le_of_mul-le-mul_right (subst (λ (z : ℕ). den F * leading U ≤ z) (mul_comm (den F) U ∙ sym c) (mul-le-mul_left (den F) leads)) P;
        most = lt_of_mul-lt-mul_right (leading U) (subst (λ (z : ℕ). z < 2 * den F * leading U) (sym c) (subst (λ (z : ℕ). U * den F < z) (around (leading U) (den F)) (mul-lt-mul_of_pos_right under (den_pos F))));
        value = cross (num x) (den x) (num F) (den F) (up n) (down n) U (leading U) (2 ^ 1074) (mul-pos (pow_pos 1074) P) (sym u) c scale;
      }

pub parts_are : (x : Float) → T (fits binary64 x) → T (positive x) → TwoParts x (exponent_of x) (fraction_of x)
unfolding exponent_of fraction_of
parts_are nan h p = absurd p
parts_are (inf s) h p = absurd p
parts_are (fin true m e) h p = absurd p
parts_are (fin false zero e) h p = absurd p
parts_are (fin false (suc m) e) h p =
    let x = fin false (suc m) e in
    let d = units_digits m e h in
    let c : 0 < units_of x = subst (λ (z : ℕ). 0 < z) (sym d) (mul-pos (zero-lt-suc m) (pow_pos (places e 1074))) in
    two_parts (units_of x) c x (round binary64 false (units_of x) (leading (units_of x)))
    (exact_at (units_of x) c (suc m) (places e 1074) d (parts_of binary64 false m e h).few) (units_whole x (in_whole x p h))
