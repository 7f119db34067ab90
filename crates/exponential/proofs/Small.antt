-- Document 02, #106: the exponential is +0 below −745 and nowhere else. From −745 on the series is above a half, and above 1 where n is
-- −1075, so p·2^n is above half of the smallest f64 and does not round to zero. Assumes nothing.
use mathlib.Core.Path.{◌≡◌, refl, sym, ap, ◌∙◌, subst}
use mathlib.Core.Logic.{inl, inr}
use Prim.Native.Nat.{ℕ, zero, suc, ◌+◌, ◌-◌, ◌*◌, ◌^◌, ◌≤◌, ◌<◌}
use native.Mathlib.Nat.{le_trans, le_of_eq, add-mul, mul_assoc, mul_comm, mul_left_comm, mul_right_comm, mul-suc, zero-mul}
use native.Mathlib.Nat.{mul-one, one-mul, mul-pos, mul-le-mul_right, mul-le-mul_left, lt_of_mul-lt-mul_right, pow-suc}
use native.Mathlib.Omega.{arith}
use mathlib.Core.Bool.{Bool, true, false, true≢false}
use borrow.Author.Tests.{lt-ltb, le-ltb}
use lib.IntN.{ℤ, pos, negsuc}
use lib.Dec.{T, lit<, lit≤, nltb→le, not_T}
use lib.Pow.{pow-add, pow_pos, pow_mono}
use lib.Ieee.{Float, nan, inf, fin, binary64, up, down, mul, neg, lt, le, eq, is_nan, of_int}
use lib.Ieee.Bits.{is_true, is_false}
use lib.Ieee.Fits.{up_pos, down_pos}
use Rattle.float.specs.Arithmetic.{number, plus_zero}
use Rattle.float.proofs.Order.{lt_or_ge, or_r, nlt_of_le}
use Rattle.float.proofs.Bound.{Within, Over, Signed, held_part, held_whole, round_signed, round_within, round_over}
use Rattle.float.proofs.Least.{round_some}
use Rattle.exponential.specs.Exponential.{floor_of, turns_of, left_of, exp_from, times_power, exp_by, exp_of}
use Rattle.exponential.specs.Small.{ZeroOnlyBelow}
use Rattle.exponential.proofs.Exponential.{by_high, by_low, by_inner, between_borders, plus_200, one_product, two_products}
use Rattle.exponential.proofs.SeriesRange.{Between, series_between, series_over}
use Rattle.exponential.proofs.Turns.{signed, close_whole}
use Rattle.exponential.proofs.Rest.{from_745, rest_within, rest_over}

-- ---- p·2^n by one product, for an n of −1074 at least: M / d is p, u / w is 2^n and E is 2^1074
half_once : (d M u w E : ℕ) → 133 * d ≤ M * 256 → 0 < d → 0 < u → w ≤ E → 0 < E → d * w < 2 * (M * (1 * u) * E)
half_once d M u w E h D U l G =
    let x : d * w ≤ d * E = mul-le-mul_left d l in
    let y : (d + 1) * E ≤ 2 * M * E = mul-le-mul_right E (omega arith) in
    let z : (d + 1) * E ≡ d * E + E = add-mul d 1 E ∙ ap (λ (v : ℕ). d * E + v) (one-mul E) in
    let v : 2 * M * E ≡ 2 * (M * E) = mul_assoc 2 M E in
    let q : M * E * 1 ≤ M * E * u = mul-le-mul_left (M * E) U in
    let r : M * E * u ≡ M * (1 * u) * E = mul_right_comm M E u ∙ ap (λ (z : ℕ). M * z * E) (sym (one-mul u)) in
    omega arith

once : (m : ℕ) (e n : ℤ) → 133 * down e ≤ m * up e * 256 → down n ≤ 2 ^ 1074 →
    T (lt plus_zero (mul binary64 (fin false m e) (fin false 1 n)))
unfolding mul
once m e n h l =
    round_some binary64 (m * up e * (1 * up n)) (down e * down n) (mul-pos (down_pos e) (down_pos n))
    (half_once (down e) (m * up e) (up n) (down n) (2 ^ 1074) h (down_pos e) (up_pos n) l (pow_pos 1074))

-- ---- by two products, from an n of −1075: M / d is p·2^(n+200) and L·2^−8·2^−w at least, with w = −(n+200) and k = −n; W is 2^(8+w),
-- Z is 2^200, G is 2^k and E is 2^1074
half_twice : (L d M W Z G E : ℕ) → L * d ≤ M * W → W * Z ≡ 256 * G → 128 * G < L * E → 0 < M → d * Z < 2 * (M * (1 * 1) * E)
half_twice L d M W Z G E h e l P =
    let x : L * d * Z ≤ M * W * Z = mul-le-mul_right Z h in
    let y : M * W * Z ≡ 256 * (M * G) = mul_assoc M W Z ∙ ap (λ (v : ℕ). M * v) e ∙ mul_left_comm M 256 G in
    let z : M * suc (128 * G) ≤ M * (L * E) = mul-le-mul_left M l in
    let u : M * suc (128 * G) ≡ 128 * (M * G) + M = mul-suc M (128 * G) ∙ ap (λ (v : ℕ). v + M) (mul_left_comm M 128 G) in
    let v : M * (L * E) * 2 ≡ 2 * (M * (1 * 1) * E) * L =
    simp (mul-one, mul_assoc, mul_comm, mul_left_comm) in
    let w : L * d * Z ≡ d * Z * L = mul_assoc L d Z ∙ mul_comm L (d * Z) in
    lt_of_mul-lt-mul_right L (omega arith)

powers : (w k : ℕ) → w + 200 ≡ k → 2 ^ (8 + w) * 2 ^ 200 ≡ 256 * 2 ^ k
powers w k e =
    ap (λ (z : ℕ). z * 2 ^ 200) (pow-add 2 8 w)
    ∙ mul_assoc 256 (2 ^ w) (2 ^ 200)
    ∙ ap (λ (z : ℕ). 256 * z) (sym (pow-add 2 w 200) ∙ ap (λ (z : ℕ). 2 ^ z) e)

-- L·2^−8·2^−w is kept by the first product
first : (L m : ℕ) (e : ℤ) (j : ℕ) → L < 9007199254740992 → 8 + suc j ≤ 1074 → L * down e ≤ m * up e * 256 →
    Over L (2 ^ (8 + suc j)) (mul binary64 (fin false m e) (fin false 1 (negsuc j)))
unfolding mul
first L m e j l b h =
    round_over binary64 (m * up e * (1 * 1)) (down e * 2 ^ suc j) L (2 ^ (8 + suc j)) (mul-pos (down_pos e) (pow_pos (suc j)))
    (pow_pos (8 + suc j)) (held_part binary64 L (8 + suc j) l b)
    (le_trans (le_of_eq (sym (mul_assoc L (down e) (2 ^ suc j)))) (le_trans (mul-le-mul_right (2 ^ suc j) h) (le_of_eq across)))
  where
    across : m * up e * 256 * 2 ^ suc j ≡ m * up e * (1 * 1) * 2 ^ (8 + suc j)
    across =
        mul_assoc (m * up e) 256 (2 ^ suc j)
        ∙ ap (λ (z : ℕ). m * up e * z) (sym (pow-add 2 8 (suc j)))
        ∙ ap (λ (z : ℕ). z * 2 ^ (8 + suc j)) (sym (mul-one (m * up e)))

-- and it is finite, and not negative
first_most : (m : ℕ) (e : ℤ) (j : ℕ) → m * up e * 256 ≤ 379 * down e → Within 2 1 (mul binary64 (fin false m e) (fin false 1 (negsuc j)))
unfolding mul
first_most m e j h =
    round_within binary64 false (m * up e * (1 * 1)) (down e * 2 ^ suc j) 2 1 (mul-pos (down_pos e) (pow_pos (suc j)))
    (lit< tt) (held_whole binary64 2 (lit≤ tt)) (less (m * up e) (down e) (2 ^ suc j) h (pow_pos (suc j)))
  where
    less : (M d w : ℕ) → M * 256 ≤ 379 * d → 0 < w → M * (1 * 1) * 1 ≤ 2 * (d * w)
    less M d w h W = let x : d * 1 ≤ d * w = mul-le-mul_left d W in omega arith

first_sign : (m : ℕ) (e : ℤ) (j : ℕ) → Signed false (mul binary64 (fin false m e) (fin false 1 (negsuc j)))
unfolding mul
first_sign m e j = round_signed binary64 false (m * up e * (1 * 1)) (down e * 2 ^ suc j)

-- the second product
second : (q : Float) (L j k : ℕ) → Signed false q → Within 2 1 q → Over L (2 ^ (8 + suc j)) q → suc j + 200 ≡ k →
    128 * 2 ^ k < L * 2 ^ 1074 → 0 < L → T (lt plus_zero (mul binary64 q (fin false 1 (negsuc 199))))
unfolding mul
second nan L j k g w o e l p = absurd g
second (inf t) L j k g w o e l p = absurd w
second (fin true m d) L j k g w o e l p = absurd (true≢false g)
second (fin false m d) L j k g w o e l p =
    round_some binary64 (m * up d * (1 * 1)) (down d * 2 ^ 200) (mul-pos (down_pos d) (pow_pos 200))
    (half_twice L (down d) (m * up d) (2 ^ (8 + suc j)) (2 ^ 200) (2 ^ k) (2 ^ 1074) o (powers (suc j) k e) l
    (some L (down d) (m * up d) (2 ^ (8 + suc j)) p (down_pos d) o))
  where
    some : (L d M W : ℕ) → 0 < L → 0 < d → L * d ≤ M * W → 0 < M
    some L d zero W p D o = absurd (clash (L * d) (mul-pos p D) (le_trans o (le_of_eq (zero-mul W))))
      where
        clash : (x : ℕ) → 0 < x → x ≤ 0 → ⊥
        clash x p h = omega arith
    some L d (suc M) W p D o = omega arith

-- ---- so p·2^n is above zero, for an n of −1075 at least, and a p above 1 at −1075
times_some : (p : Float) (s : Bool) (k : ℕ) → Between 133 379 256 p → k ≤ 1075 → (k ≡ 1075 → s ≡ true → Over 279 256 p) →
    T (lt plus_zero (times_power p (signed s k)))
times_some nan s k b l o = absurd b.sign
times_some (inf t) s k b l o = absurd b.most
times_some (fin true m e) s k b l o = absurd (true≢false b.sign)
times_some (fin false m e) false k b l o = rw (← one_product (fin false m e) (pos k) refl) (once m e (pos k) b.least (pow_pos 1074))
times_some (fin false m e) true zero b l o = rw (← one_product (fin false m e) (pos 0) refl) (once m e (pos 0) b.least (pow_pos 1074))
times_some (fin false m e) true (suc i) b l o = elim (lt_or_ge 1021 (suc i)) [
  | inr h ↦
      rw (← one_product (fin false m e) (negsuc i) (le-ltb 1021 (suc i) h))
      (once m e (negsuc i) b.least (pow_mono {i = suc i} {j = 1074} (omega arith)))
  | inl h ↦
      rw (← two_products (fin false m e) (negsuc i) (lt-ltb 1021 (suc i) h), plus_200 i (omega arith))
      (elim (lt_or_ge (suc i) 1075) [
        | inl g ↦
            second q 133 j (suc i) (first_sign m e j) (first_most m e j b.most)
            (first 133 m e j (lit< tt) (omega arith) b.least) (omega arith)
            (not_more (2 ^ suc i) (2 ^ 1074) (pow_mono {i = suc i} {j = 1074} (omega arith)) (pow_pos 1074)) (lit< tt)
        | inr g ↦
            let a : suc i ≡ 1075 = omega arith in
            second q 279 j 1075 (first_sign m e j) (first_most m e j b.most)
            (first 279 m e j (lit< tt) (omega arith) (o a refl)) (omega arith)
            (twice (2 ^ 1075) (2 ^ 1074) (pow-suc 2 1074) (pow_pos 1074)) (lit< tt)
      ])
]
  where
    j : ℕ
    j = suc i - 201

    q : Float
    q = mul binary64 (fin false m e) (fin false 1 (negsuc j))

    not_more : (G E : ℕ) → G ≤ E → 0 < E → 128 * G < 133 * E
    not_more G E h p = omega arith

    twice : (G E : ℕ) → G ≡ E * 2 → 0 < E → 128 * G < 279 * E
    twice G E h p = omega arith

-- ---- the exponential from −745 to 709
inner_within : (x : Float) → T (le (neg (number 745)) x) → T (le x (number 709)) → Within 745 1 x
unfolding of_int neg le lt eq
inner_within nan a b = absurd a
inner_within (inf true) a b = absurd a
inner_within (inf false) a b = absurd b
inner_within (fin true m e) a b =
    let x = fin true m e in
    nltb→le (745 * down e) (m * up e * 1) (not_T (lt x (neg (number 745))) (nlt_of_le x (neg (number 745)) a))
inner_within (fin false m e) a b =
    let x = fin false m e in
    let k : m * up e * 1 ≤ 709 * down e = nltb→le (709 * down e) (m * up e * 1) (not_T (lt (number 709) x) (nlt_of_le (number 709) x b)) in
    omega arith

module _ (s : Bool) (m : ℕ) (e : ℤ) (h : m * up e ≤ 745 * down e) where
  above_one : (k : ℕ) → Within 3 8 (left_of (fin s m e) (of_int binary64 (signed s k))) → k ≡ 1075 → s ≡ true →
      Over 279 256 (exp_from 13 (left_of (fin s m e) (of_int binary64 (signed s k))) (number 1))
  above_one k w i t =
      let rest : (s : Bool) (k : ℕ) → Float = λ s k. left_of (fin s m e) (of_int binary64 (signed s k)) in
      let law : (s : Bool) (k : ℕ) → Type 0 = λ s k. Signed false (rest s k) × Over 1 8 (rest s k) in
      let r : law s k = subst (λ (s : Bool). law s k) (sym t) (subst (law true) (sym i) (rest_over m e h)) in
      series_over (rest s k) w r.0 r.1

  exp_some : T (lt plus_zero (exp_by (fin s m e) (floor_of (turns_of (fin s m e)))))
  unfolding exp_by
  exp_some =
      let n = close_whole s m e h in
      let k = n.k in
      let r = left_of (fin s m e) (of_int binary64 (signed s k)) in
      let w = rest_within s m e k n.close n.bound in
      subst (λ (z : ℤ). T (lt plus_zero (exp_by (fin s m e) z))) (sym n.whole)
      (times_some (exp_from 13 r (number 1)) s k (series_between r w) (from_745 (m * up e) (down e) k n.close (down_pos e) h)
      (above_one k w))

inner_some : (x : Float) → Within 745 1 x → T (lt plus_zero (exp_by x (floor_of (turns_of x))))
inner_some nan h = absurd h
inner_some (inf s) h = absurd h
inner_some (fin s m e) h = exp_some s m e (omega arith)

-- ---- the theorem
no_zero : (v : Float) → T (lt plus_zero v) → eq v plus_zero ≡ false
unfolding le
no_zero v h = is_false (eq v plus_zero) (not_T (eq v plus_zero) (λ e. nlt_of_le plus_zero v (or_r (lt v plus_zero) (eq v plus_zero) e) h))

zeros_alike : eq plus_zero plus_zero ≡ true
unfolding eq
zeros_alike = refl

no_zero_infinite : eq (inf false) plus_zero ≡ false
unfolding eq
no_zero_infinite = refl

exactly_below : (x : Float) → is_nan x ≡ false → eq (exp_of x) plus_zero ≡ lt x (neg (number 745))
exactly_below x h = go (lt (number 709) x) (lt x (neg (number 745))) refl refl
  where
    go : (q r : Bool) → lt (number 709) x ≡ q → lt x (neg (number 745)) ≡ r → eq (exp_of x) plus_zero ≡ r
    go q true a b = ap (λ (v : Float). eq v plus_zero) (sym (by_low x b)) ∙ zeros_alike
    go true false a b = ap (λ (v : Float). eq v plus_zero) (sym (by_high x h a)) ∙ no_zero_infinite
    go false false a b =
        let i = between_borders x h a b in
        ap (λ (v : Float). eq v plus_zero) (sym (by_inner x i.0 i.1))
        ∙ no_zero (exp_by x (floor_of (turns_of x))) (inner_some x (inner_within x i.0 i.1))

pub zero_only_below : (x : Float) → ZeroOnlyBelow x
unfolding exp_of is_nan eq lt
zero_only_below nan = record { exactly = refl; plus = λ h. absurd h; of_nan = λ _. refl }
zero_only_below (inf s) =
    record {
      exactly = exactly_below (inf s) refl;
      plus = λ h. sym (by_low (inf s) (is_true (lt (inf s) (neg (number 745))) h));
      of_nan = λ h. absurd h;
    }
zero_only_below (fin s m e) =
    record {
      exactly = exactly_below (fin s m e) refl;
      plus = λ h. sym (by_low (fin s m e) (is_true (lt (fin s m e) (neg (number 745))) h));
      of_nan = λ h. absurd h;
    }
