-- The number that a positive value of binary64 is, by the fields of its bit pattern. Assumes nothing.
use mathlib.Core.Path.{◌≡◌, refl, sym, ap, ◌∙◌, subst}
use Prim.Native.Nat.{ℕ, zero, suc, ◌+◌, ◌-◌, ◌*◌, ◌/◌, ◌%◌, ◌^◌, ◌<◌}
use native.Mathlib.Nat.{lt_of_not-le, mul_assoc, mul_right_comm, mul-one, add_comm}
use native.Mathlib.Decide.{dec_le}
use native.Mathlib.Omega.{arith}
use mathlib.Core.Bool.{Bool, true, false, not, cond, true≢false}
use Prim.{yes, no}
use borrow.Author.Tests.{le-leb}
use lib.Dec.{T, eqb}
use lib.Pow.{pow-add, pow_pos}
use lib.Ieee.{Float, nan, inf, fin, binary64, odd, of_fields, of_bits, to_bits, fits, is_nan}
use lib.Ieee.Bits.{of_bits-to_bits}
use lib.Ieee.Exact.{HasValue, odd_sign}
use lib.Ieee.Positive.{num, den, positive, value→cross, value_pos, first_pos}
use Rattle.float.proofs.Pattern.{of_bits_is, unsigned, normal}

pub positive_no_nan : (x : Float) → T (positive x) → T (not (is_nan x))
unfolding is_nan
positive_no_nan nan p = absurd p
positive_no_nan (inf s) p = absurd p
positive_no_nan (fin s m e) p = tt

negative : (x : Float) (a c : ℕ) → HasValue x true a c → T (positive x) → ⊥
negative nan a c h p = absurd p
negative (inf s) a c h p = absurd p
negative (fin true m e) a c h p = absurd p
negative (fin false m e) a c h p = true≢false (sym h.0)

special : (s : Bool) (b : Bool) → T (positive (cond b (inf s) nan)) → ⊥
special s true p = absurd p
special s false p = absurd p

signed : (x t : ℕ) → T (positive (of_fields binary64 true x t)) → ⊥
unfolding of_fields
signed zero t p = negative (odd 53 true t 0 1074) (t * 2 ^ 0) (2 ^ 1074) (odd_sign 53 true t 0 1074) p
signed (suc x) t p = go (eqb (suc x) 2047) p
  where
    go : (b : Bool) → T (positive (cond b (cond (eqb t 0) (inf true) nan) (odd 53 true (4503599627370496 + t) x 1074))) → ⊥
    go true q = special true (eqb t 0) q
    go false q = negative (odd 53 true (4503599627370496 + t) x 1074) ((4503599627370496 + t) * 2 ^ x) (2 ^ 1074) (odd_sign 53 true (4503599627370496 + t) x 1074) q

all_ones : (s : Bool) (t : ℕ) → T (positive (of_fields binary64 s 2047 t)) → ⊥
unfolding of_fields
all_ones s t p = special s (eqb t 0) p

-- the pattern of a positive value lies below that of the infinity
pub positive_bits : (b : ℕ) → T (positive (of_bits binary64 b)) → b < 9218868437227405312
positive_bits b p =
    elim (dec_le 9223372036854775808 b) [
      | yes h ↦ absurd (signed (b % 9223372036854775808 / 4503599627370496) (b % 4503599627370496) (rw (of_bits_is b, le-leb 9223372036854775808 b h) at p))
      | no h ↦
          let l : b < 9223372036854775808 = lt_of_not-le h in
          elim (dec_le 9218868437227405312 b) [
            | yes k ↦
                let f : b % 9223372036854775808 / 4503599627370496 ≡ 2047 = omega arith in
                absurd (all_ones false (b % 4503599627370496) (rw (of_bits_is b, unsigned b l, f) at p))
            | no k ↦ lt_of_not-le k
          ]
    ]

-- the number in units of 2 ^ -1074
pub normal_value : (b : ℕ) → b < 9218868437227405312 → 0 < b / 4503599627370496
    → HasValue (of_bits binary64 b) false ((4503599627370496 + b % 4503599627370496) * 2 ^ (b / 4503599627370496 - 1)) (2 ^ 1074)
normal_value b h p =
    let e : b ≡ suc (b / 4503599627370496 - 1) * 4503599627370496 + b % 4503599627370496 = omega arith in
    rw (normal b (b / 4503599627370496 - 1) (b % 4503599627370496) e (omega arith) (omega arith))
    (odd_sign 53 false (4503599627370496 + b % 4503599627370496) (b / 4503599627370496 - 1) 1074)

no_field : (t : ℕ) → of_fields binary64 false 0 t ≡ odd 53 false t 0 1074
unfolding of_fields
no_field t = refl

pub subnormal_value : (b : ℕ) → b / 4503599627370496 ≡ 0 → HasValue (of_bits binary64 b) false (b % 4503599627370496 * 2 ^ 0) (2 ^ 1074)
subnormal_value b h =
    let f : b % 9223372036854775808 / 4503599627370496 ≡ 0 = omega arith in
    rw (of_bits_is b, unsigned b (omega arith), f, no_field) (odd_sign 53 false (b % 4503599627370496) 0 1074)

-- ---- 52 places more
pub finer : (n d a : ℕ) → n * 2 ^ 1074 ≡ a * d → n * 2 ^ 1126 ≡ a * 2 ^ 52 * d
finer n d a e = sym (mul_assoc n (2 ^ 1074) (2 ^ 52)) ∙ ap (λ (x : ℕ). x * 2 ^ 52) e ∙ mul_right_comm a d (2 ^ 52)

raised : (t f : ℕ) → 0 < f → (4503599627370496 + t) * 2 ^ (f - 1) * 2 ^ 52 ≡ (t + 4503599627370496) * 2 ^ (f + 51)
raised t f h =
    let e : f + 51 ≡ f - 1 + 52 = omega arith in
    rw (e, pow-add 2 (f - 1) 52) (mul_assoc (4503599627370496 + t) (2 ^ (f - 1)) (2 ^ 52) ∙ ap (λ (z : ℕ). z * (2 ^ (f - 1) * 2 ^ 52)) (add_comm 4503599627370496 t))

module _ (x : Float) (f : T (fits binary64 x)) (p : T (positive x)) where
  pub bits_under : to_bits binary64 x < 9218868437227405312
  bits_under = positive_bits (to_bits binary64 x) (rw (of_bits-to_bits binary64 x f) p)

  pub normal_split : 0 < to_bits binary64 x / 4503599627370496
      → num x * 2 ^ 1126 ≡ (to_bits binary64 x % 4503599627370496 + 4503599627370496) * 2 ^ (to_bits binary64 x / 4503599627370496 + 51) * den x
  normal_split h =
      let b = to_bits binary64 x in
      let v = subst (λ (y : Float). HasValue y false ((4503599627370496 + b % 4503599627370496) * 2 ^ (b / 4503599627370496 - 1)) (2 ^ 1074)) (of_bits-to_bits binary64 x f) (normal_value b bits_under h) in
      finer (num x) (den x) ((4503599627370496 + b % 4503599627370496) * 2 ^ (b / 4503599627370496 - 1)) (value→cross x _ _ v)
      ∙ ap (λ (z : ℕ). z * den x) (raised (b % 4503599627370496) (b / 4503599627370496) h)

  -- t * 2 ^ 52, for the digits t of a value with no exponent's field
  pub subnormal_split : (m e : ℕ) → to_bits binary64 x / 4503599627370496 ≡ 0 → m * 2 ^ e ≡ to_bits binary64 x % 4503599627370496 * 2 ^ 52 → num x * 2 ^ 1126 ≡ m * 2 ^ e * den x
  subnormal_split m e h k =
      let b = to_bits binary64 x in
      let v = subst (λ (y : Float). HasValue y false (b % 4503599627370496 * 2 ^ 0) (2 ^ 1074)) (of_bits-to_bits binary64 x f) (subnormal_value b h) in
      finer (num x) (den x) (b % 4503599627370496 * 2 ^ 0) (value→cross x _ _ v)
      ∙ ap (λ (z : ℕ). z * den x) (ap (λ (z : ℕ). z * 2 ^ 52) (mul-one (b % 4503599627370496)) ∙ sym k)

  pub subnormal_pos : to_bits binary64 x / 4503599627370496 ≡ 0 → 0 < to_bits binary64 x % 4503599627370496
  subnormal_pos h =
      let b = to_bits binary64 x in
      let v = subst (λ (y : Float). HasValue y false (b % 4503599627370496 * 2 ^ 0) (2 ^ 1074)) (of_bits-to_bits binary64 x f) (subnormal_value b h) in
      first_pos (b % 4503599627370496) (2 ^ 0) (value_pos x (b % 4503599627370496 * 2 ^ 0) (2 ^ 1074) p (pow_pos 1074) v)
