-- The root of a positive float from its 53 leading digits, and the cases of the root: from x in units of 2^−1074, a whole number with e + 1
-- binary digits, the definition's radicand is m·2^(e % 2)·2^52, and of that the nearest root is the one. Assumes nothing.
use Rattle.std.proofs.Common.{◌≡◌, ℕ, zero, suc, ◌+◌, ◌-◌, ◌*◌, ◌/◌, ◌%◌, ◌^◌, ◌<◌, ◌≤◌, true, false, T, ℤ, pos, negsuc, sym, refl, ap, ◌∙◌}
use Rattle.std.proofs.Common.{subst, ap₂, true≢false, le_trans, le_of_eq, lt_of_lt_of_le, lt_of_le_of_lt, mul-le-mul_right, mul_assoc}
use Rattle.std.proofs.Common.{mul_comm, lt_of_mul-lt-mul_right, mul-lt-mul_of_pos_right, mul-pos, pow-suc, lt_of_not-le, mul_right_comm}
use Rattle.std.proofs.Common.{not-le_of_lt, mul-div_cancel, mul_left_comm, arith, lit≤, pow_pos, pow_mono, pow-add, ltb-true}
use lib.Ieee.{Float, nan, inf, fin, binary64, up, down, round, size, eq, lt, fits}
use lib.Ieee.Digits.{size-lt, size-le, size_reaches}
use lib.Ieee.Positive.{num, den, positive}
use lib.Ieee.Scale.{round_same}
use Rattle.float.specs.Arithmetic.{plus_zero}
use Rattle.float.specs.Parts.{units_of, SplitOf, value_of}
use Rattle.root.specs.Root.{near_root, places_of, radicand_of, positive_root, root_of}
use Rattle.root.specs.Steps.{Scaled, Open, Nearest}
use Rattle.float.proofs.Tests.{zero_digits, not_below}
use Rattle.float.proofs.Parts.{InUnits, units_split, units_size}
use Rattle.root.proofs.WholeRoots.{Paired, paired, paired_near, nearest_one, near_root_is}
use Rattle.float.proofs.Units.{parts_of, reached, places, in_units}

-- ---- powers
fours : (h : ℕ) → 4 ^ h ≡ 2 ^ h * 2 ^ h
fours zero = refl
fours (suc h) =
    pow-suc 4 h ∙ ap (λ (z : ℕ). z * 4) (fours h)
    ∙ twice (2 ^ h)
    ∙ ap₂ (λ (a b : ℕ). a * b) (sym (pow-suc 2 h)) (sym (pow-suc 2 h))
  where
    twice : (p : ℕ) → p * p * 4 ≡ p * 2 * (p * 2)
    twice p = simp (mul_assoc, mul_comm, mul_left_comm) (omega arith)

pub pow_split : (a b c : ℕ) → c ≡ a + b → 2 ^ c ≡ 2 ^ a * 2 ^ b
pow_split a b c h = ap (λ (z : ℕ). 2 ^ z) h ∙ pow-add 2 a b

-- e is twice its half and its last digit
halves : (e : ℕ) → 2 ^ e ≡ 2 ^ (e % 2) * 4 ^ (e / 2)
halves e =
    pow_split (e % 2) (e / 2 + e / 2) e (omega arith)
    ∙ ap (λ (z : ℕ). 2 ^ (e % 2) * z) (pow-add 2 (e / 2) (e / 2) ∙ sym (fours (e / 2)))

pub more_places : (h : ℕ) → 2 ^ (h + 485) ≡ 2 ^ (h + 1) * 2 ^ 484
more_places h = pow_split (h + 1) 484 (h + 485) (omega arith)

-- ---- the definition's parts, of a float that is taken apart
module _ (x : Float) (m e : ℕ) (s : SplitOf x m e) (w : InUnits x) where
  pub places_are : places_of x ≡ e / 2 + 1
  unfolding places_of
  places_are =
      let a : (e + 1 + 1) / 2 ≡ e / 2 + 1 = omega arith in
      ap (λ (z : ℕ). (z + 1) / 2) (units_size x w m e s) ∙ a

  at_radicand : m * 2 ^ e * 2 ^ 54 ≡ m * 2 ^ (e % 2) * 2 ^ 52 * 4 ^ (e / 2 + 1)
  at_radicand =
      ap (λ (z : ℕ). m * z * 2 ^ 54) (halves e)
      ∙ around m (2 ^ (e % 2)) (4 ^ (e / 2))
      ∙ ap (λ (z : ℕ). m * 2 ^ (e % 2) * 2 ^ 52 * z) (sym (pow-add 4 (e / 2) 1))
    where
      around : (a b c : ℕ) → a * (b * c) * 2 ^ 54 ≡ a * b * 2 ^ 52 * (c * 4)
      around a b c = simp (mul_assoc, mul_comm, mul_left_comm) (omega arith)

  pub radicand_is : radicand_of x ≡ m * 2 ^ (e % 2) * 2 ^ 52
  unfolding radicand_of
  radicand_is =
      ap (λ (b : ℕ). units_of x * 2 ^ 106 / 4 ^ b) places_are
      ∙ ap (λ (z : ℕ). z / 4 ^ (e / 2 + 1))
      (sym (mul_assoc (units_of x) (2 ^ 52) (2 ^ 54)) ∙ ap (λ (z : ℕ). z * 2 ^ 54) (units_split x w m e s) ∙ at_radicand)
      ∙ mul-div_cancel (m * 2 ^ (e % 2) * 2 ^ 52) (rw (fours (e / 2 + 1)) (mul-pos (pow_pos (e / 2 + 1)) (pow_pos (e / 2 + 1))))

  -- x as a fraction: the radicand's 4^(e / 2 + 1), in units of 2^−1180
  pub radicand_value : num x * (2 ^ 590 * 2 ^ 590) ≡ m * 2 ^ (e % 2) * 2 ^ 52 * (2 ^ (e / 2 + 1) * 2 ^ (e / 2 + 1)) * den x
  radicand_value =
      sym (mul_assoc (num x) (2 ^ 1126) (2 ^ 54))
      ∙ ap (λ (z : ℕ). z * 2 ^ 54) s.value
      ∙ mul_right_comm (m * 2 ^ e) (den x) (2 ^ 54)
      ∙ ap (λ (z : ℕ). z * den x) (at_radicand ∙ ap (λ (z : ℕ). m * 2 ^ (e % 2) * 2 ^ 52 * z) (fours (e / 2 + 1)))

  pub paired_digits : Paired m (e % 2)
  paired_digits = paired m (e % 2) s.first s.last (omega arith)

  pub near_digits : Nearest (m * 2 ^ (e % 2) * 2 ^ 52) (near_root (m * 2 ^ (e % 2) * 2 ^ 52))
  near_digits = paired_near paired_digits

  pub scaled : T (positive x) → Scaled x (e / 2 + 485)
  scaled h =
      let p = paired_digits in
      record {
        above = h;
        first = rw radicand_is (mul-le-mul_right (2 ^ 52) p.first);
        last = rw radicand_is (mul-le-mul_right (2 ^ 52) p.last);
        places = omega (arith, places_are);
        high = omega (arith, s.high);
      }

  -- of the digits as they stand in a word all places are open
  pub begun : T (positive x) → Open x (2 ^ 52) (record { rest = m * 2 ^ (e % 2 + 1) % 2 ^ 64; step = 2 ^ 53; power = e / 2 + 485 })
  begun h =
      let p = paired_digits in
      record {
        n = 53;
        y = 0;
        highest = refl;
        reach = refl;
        under = omega (arith, p.word, p.last);
        most = lit≤ tt;
        fourfold = rw (p.word, radicand_is) (omega arith);
        scaled = scaled h;
      }

-- ---- every positive float has its leading 53 digits
pub apart : (a b : ℕ) → 2 ^ a < 2 ^ b → a < b
apart a b h = lt_of_not-le (λ (g : b ≤ a). not-le_of_lt h (pow_mono g))

pub record HasSplit (x : Float) : Type 0 where
  pub m : ℕ
  pub e : ℕ
  pub split : SplitOf x m e

pub split_exists : (x : Float) → T (positive x) → T (fits binary64 x) → HasSplit x
split_exists nan p h = absurd p
split_exists (inf s) p h = absurd p
split_exists (fin true m e) p h = absurd p
split_exists (fin false zero e) p h = absurd p
split_exists (fin false (suc m) e) p h =
    let q = parts_of binary64 false m e h in
    let n = suc m in
    let z = size n in
    let hi : n < 2 ^ z = size-lt n in
    let zp : 0 < z = apart 0 z (lt_of_le_of_lt (the 1 n (omega arith)) hi) in
    let lo : 2 ^ (z - 1) ≤ n = size_reaches n (z - 1) (omega arith) in
    let zl : z ≤ 53 = size-le n 53 q.few in
    let P = places e 1126 in
    let u : n * up e * 2 ^ 1126 ≡ n * 2 ^ P * down e = in_units n e 1126 (le_trans q.fine (pow_mono {i = 1074} {j = 1126} (lit≤ tt))) in
    let P-low : 52 ≤ P = deep e q.fine in
    let k = 53 - z in
    let w : n * 2 ^ P ≡ n * 2 ^ k * 2 ^ (P - k) =
    ap (λ (y : ℕ). n * y) (pow_split k (P - k) P (omega arith)) ∙ sym (mul_assoc n (2 ^ k) (2 ^ (P - k))) in
    let first : 2 ^ 52 ≤ n * 2 ^ k = le_trans (le_of_eq (pow_split (z - 1) k 52 (omega arith))) (mul-le-mul_right (2 ^ k) lo) in
    let last : n * 2 ^ k < 2 ^ 53 =
    lt_of_lt_of_le (mul-lt-mul_of_pos_right hi (pow_pos k)) (le_of_eq (sym (pow_split z k 53 (omega arith)))) in
    let value : n * up e * 2 ^ 1126 ≡ n * 2 ^ k * 2 ^ (P - k) * down e = u ∙ ap (λ (y : ℕ). y * down e) w in
    let under : n * 2 ^ k * 2 ^ (P - k) < 2 ^ 1024 * 2 ^ 1126 =
    lt_of_mul-lt-mul_right (down e)
    (lt_of_le_of_lt (le_of_eq (sym value))
    (lt_of_lt_of_le (mul-lt-mul_of_pos_right q.small (pow_pos 1126)) (le_of_eq (mul_right_comm (2 ^ 1024) (down e) (2 ^ 1126))))) in
    let far : 52 + (P - k) < 2150 =
    apart (52 + (P - k)) 2150
    (lt_of_le_of_lt (le_trans (le_of_eq (pow-add 2 52 (P - k))) (mul-le-mul_right (2 ^ (P - k)) first))
    (lt_of_lt_of_le under (le_of_eq (sym (pow-add 2 1024 1126))))) in
    record { m = n * 2 ^ k; e = P - k; split = record { value = value; first = first; last = last; high = omega arith } }
  where
    the : (a b : ℕ) → a ≤ b → a ≤ b
    the a b e = e

    deep : (e : ℤ) → down e ≤ 2 ^ 1074 → 52 ≤ places e 1126
    deep (pos k) h = omega arith
    deep (negsuc k) h = omega (arith, reached (suc k) 1074 h)

-- ---- the cases of `root_of`
pub of_zero : (x : Float) → eq x plus_zero ≡ true → x ≡ root_of x
unfolding root_of eq
of_zero nan h = refl
of_zero (inf true) h = absurd (true≢false (sym h))
of_zero (inf false) h = refl
of_zero (fin s zero e) h = refl
of_zero (fin s (suc m) e) h = absurd (some m (zero_digits s (suc m) e h))
  where
    some : (m : ℕ) → suc m ≡ 0 → ⊥
    some m e = omega arith

pub of_negative : (x : Float) → lt x plus_zero ≡ true → nan ≡ root_of x
unfolding lt root_of
of_negative nan h = refl
of_negative (inf true) h = refl
of_negative (inf false) h = absurd (true≢false (sym h))
of_negative (fin true zero e) h = absurd (clash (up e) (down e) (ltb-true 0 (0 * up e * 1 + 0 * down e) h))
  where
    clash : (a b : ℕ) → 0 < 0 * a * 1 + 0 * b → ⊥
    clash a b q = omega arith
of_negative (fin true (suc m) e) h = refl
of_negative (fin false m e) h = absurd (not_below m e h)

pub of_positive : (x : Float) → T (positive x) → positive_root x ≡ root_of x
unfolding root_of
of_positive nan p = absurd p
of_positive (inf s) p = absurd p
of_positive (fin true m e) p = absurd p
of_positive (fin false zero e) p = absurd p
of_positive (fin false (suc m) e) p = refl

pub of_endless : (x : Float) → lt x (fin false 0 (pos 0)) ≡ false → lt x (inf false) ≡ false → x ≡ root_of x
unfolding lt root_of
of_endless nan q r = refl
of_endless (inf true) q r = absurd (true≢false q)
of_endless (inf false) q r = refl
of_endless (fin s m e) q r = absurd (true≢false r)

-- ---- the root in its digits
-- the nearest root, in the units of 2^−1074
pub root_is : (x : Float) {k r : ℕ} → Scaled x k → Nearest (radicand_of x) r → value_of r k ≡ root_of x
unfolding positive_root
root_is x {k} {r} s near =
    let b = places_of x in
    let n = radicand_of x in
    ap (λ (z : ℕ). value_of r z) s.places
    ∙ round_same binary64 false (r * 2 ^ (b + 484)) (2 ^ 1074) (r * 2 ^ b) (2 ^ 590) (pow_pos 1074) (pow_pos 590) (around r b)
    ∙ ap (λ (z : ℕ). round binary64 false (z * 2 ^ b) (2 ^ 590)) (nearest_one n r (near_root n) near (near_root_is n s.first s.last))
    ∙ of_positive x s.above
  where
    around : (r h : ℕ) → r * 2 ^ (h + 484) * 2 ^ 590 ≡ r * 2 ^ h * 2 ^ 1074
    around r h =
        ap (λ (z : ℕ). r * z * 2 ^ 590) (pow-add 2 h 484)
        ∙ ap (λ (z : ℕ). z * 2 ^ 590) (sym (mul_assoc r (2 ^ h) (2 ^ 484)))
        ∙ mul_assoc (r * 2 ^ h) (2 ^ 484) (2 ^ 590)

pub root_digits : (x : Float) (m e : ℕ) → T (positive x) → SplitOf x m e → InUnits x
    → value_of (near_root (m * 2 ^ (e % 2) * 2 ^ 52)) (e / 2 + 485) ≡ root_of x
root_digits x m e p s w =
    let n = m * 2 ^ (e % 2) * 2 ^ 52 in
    root_is x (scaled x m e s w p) (subst (λ (z : ℕ). Nearest z (near_root n)) (sym (radicand_is x m e s w)) (near_digits x m e s w))
