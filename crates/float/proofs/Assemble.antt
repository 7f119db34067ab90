-- The float y * 2 ^ k * 2 ^ -1074 by its bit pattern, for a y of 53 digits, and the pattern of such a whole number. Assumes nothing.
use mathlib.Core.Path.{◌≡◌, refl, sym, ap, ◌∙◌}
use Prim.Native.Nat.{ℕ, zero, suc, ◌+◌, ◌-◌, ◌*◌, ◌/◌, ◌%◌, ◌^◌, ◌≤◌, ◌<◌}
use native.Mathlib.Nat.{mul-one, mul_assoc, mul_comm, mul_left_comm, mul-le-mul_right, mul-lt-mul_of_pos_right, mul-pos, lt_of_lt_of_le, pow-suc}
use native.Mathlib.Omega.{arith}
use mathlib.Core.Bool.{false, not}
use lib.Dec.{T, lit<}
use lib.IntN.{pos}
use lib.Pow.{pow_pos, pow_mono, pow-add}
use lib.Count.{count_trailing_zeros, under}
use lib.Ieee.{fin, binary64, odd, of_int, of_bits, to_bits, nan_bits, is_nan, round, minus}
use lib.Ieee.Bits.{nan_bits_is, to_bits-of_bits}
use lib.Ieee.Scale.{round_same}
use Rattle.float.proofs.Pattern.{normal}
use Rattle.float.proofs.Rounding.{round_to}

-- ---- a place more than a number has adds no zero at its end
zeros : (d q : ℕ) → 0 < q → q < 2 ^ d → count_trailing_zeros (suc d) q ≡ count_trailing_zeros d q
unfolding count_trailing_zeros
zeros zero q p h = absurd (none q p h)
  where
    none : (q : ℕ) → 0 < q → q < 1 → ⊥
    none q a b = omega arith
zeros (suc d) q p h = go (q % 2) refl (λ a b. zeros d (q / 2) a b)
  where
    go : (r : ℕ) → q % 2 ≡ r → (0 < q / 2 → q / 2 < 2 ^ d → count_trailing_zeros (suc d) (q / 2) ≡ count_trailing_zeros d (q / 2))
        → under r (count_trailing_zeros (suc d) (q / 2)) ≡ under r (count_trailing_zeros d (q / 2))
    go zero e f = ap suc (f (omega arith) (omega (arith, pow-suc 2 d)))
    go (suc r) e f = refl

odd_less : (q k l : ℕ) → 0 < q → q < 2 ^ 53 → odd 54 false q k l ≡ odd 53 false q k l
unfolding odd
odd_less zero k l p h = refl
odd_less (suc q) k l p h = ap (λ (t : ℕ). fin false (suc q / 2 ^ t) (minus (k + t) l)) (zeros 53 (suc q) p h)

pub pattern : (y k : ℕ) → 2 ^ 52 ≤ y → y < 2 ^ 53 → k < 2046 → of_bits binary64 (k * 4503599627370496 + y) ≡ odd 54 false y k 1074
pattern y k a b c =
    let e : k * 4503599627370496 + y ≡ suc k * 4503599627370496 + (y - 4503599627370496) = omega arith in
    let f : 4503599627370496 + (y - 4503599627370496) ≡ y = omega arith in
    normal (k * 4503599627370496 + y) k (y - 4503599627370496) e (omega arith) (omega arith)
    ∙ ap (λ (z : ℕ). odd 53 false z k 1074) f
    ∙ sym (odd_less y k 1074 (omega arith) b)

-- ---- a fraction that is y units exactly
near_lo : (y d p : ℕ) → 0 < d * p → 2 * (y * (d * p)) < 2 * (y * p * d) + d * p
near_lo y d p h =
    let e : y * (d * p) ≡ y * p * d = simp (mul_assoc, mul_comm, mul_left_comm) in
    omega arith

near_hi : (y d p : ℕ) → 0 < d * p → 2 * (y * p * d) < 2 * (y * (d * p)) + d * p
near_hi y d p h =
    let e : y * (d * p) ≡ y * p * d = simp (mul_assoc, mul_comm, mul_left_comm) in
    omega arith

pub exact : (y k : ℕ) → 2 ^ 52 ≤ y → y < 2 ^ 53 → k < 2046 → round binary64 false (y * 2 ^ k) (2 ^ 1074) ≡ odd 54 false y k 1074
exact y k a b c =
    let D = pow_pos 1074 in
    let U = mul-pos D (pow_pos k) in
    round_to (y * 2 ^ k) (2 ^ 1074) y k D
    (mul-le-mul_right (2 ^ 1074) (rw (pow-add 2 52 k) (mul-le-mul_right (2 ^ k) a)))
    (mul-lt-mul_of_pos_right (rw (pow-add 2 53 k) (mul-lt-mul_of_pos_right b (pow_pos k))) D)
    (near_lo y (2 ^ 1074) (2 ^ k) U)
    (near_hi y (2 ^ 1074) (2 ^ k) U)
    (lt_of_lt_of_le (rw (sym (pow-add 2 53 k)) at (mul-lt-mul_of_pos_right b (pow_pos k))) (pow_mono {j = 2098} (omega arith)))

pub composed : (y k : ℕ) → 2 ^ 52 ≤ y → y < 2 ^ 53 → k < 2046 → of_bits binary64 (k * 4503599627370496 + y) ≡ round binary64 false (y * 2 ^ k) (2 ^ 1074)
composed y k a b c = pattern y k a b c ∙ sym (exact y k a b c)

odd_number : (q k l : ℕ) → T (not (is_nan (odd 54 false q k l)))
unfolding odd is_nan
odd_number zero k l = tt
odd_number (suc q) k l = tt

pub composed_no_nan : (y k : ℕ) → 2 ^ 52 ≤ y → y < 2 ^ 53 → k < 2046 → T (not (nan_bits binary64 (k * 4503599627370496 + y)))
composed_no_nan y k a b c = rw (nan_bits_is, pattern y k a b c) (odd_number y k 1074)

-- the pattern of a whole number of 53 binary digits
whole_pattern : (y : ℕ) → 2 ^ 52 ≤ y → y < 2 ^ 53 → of_bits binary64 (1074 * 4503599627370496 + y) ≡ of_int binary64 (pos y)
unfolding of_int
whole_pattern y a b = composed y 1074 a b (lit< tt) ∙ round_same binary64 false (y * 2 ^ 1074) (2 ^ 1074) y 1 (pow_pos 1074) (lit< tt) (mul-one (y * 2 ^ 1074))

pub whole_bits : (y : ℕ) → 2 ^ 52 ≤ y → y < 2 ^ 53 → to_bits binary64 (of_int binary64 (pos y)) ≡ 1074 * 4503599627370496 + y
whole_bits y a b =
    let n = 1074 * 4503599627370496 + y in
    let l : n < 18446744073709551616 = omega arith in
    ap (to_bits binary64) (sym (whole_pattern y a b)) ∙ to_bits-of_bits binary64 n l (rw (sym (nan_bits_is binary64 n)) (composed_no_nan y 1074 a b (lit< tt)))
