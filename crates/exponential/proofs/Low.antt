-- The exponential below −708, where n is −1021 at most: y + 200 is exact, y being x·1.4426950408889634 + 0.5, so its floor is n + 200.
-- And from −708 on n is not under −1021. Assumes nothing.
use mathlib.Core.Path.{◌≡◌, refl, sym, ap, ◌∙◌, subst}
use mathlib.Core.Logic.{inl, inr}
use Prim.Native.Nat.{ℕ, zero, suc, ◌+◌, ◌-◌, ◌*◌, ◌/◌, ◌^◌, ◌≤◌, ◌<◌}
use native.Mathlib.Nat.{le_trans, le_of_eq, mul_comm, mul_right_comm, mul-one}
use native.Mathlib.Nat.{mul-le-mul_right, add-mul, le_of_mul-le-mul_right, lt_of_mul-lt-mul_right, mul-lt-mul_of_pos_right}
use native.Mathlib.Omega.{arith}
use mathlib.Core.Bool.{Bool, true, false, true≢false}
use borrow.Author.Tests.{lt-ltb, le-ltb, lt-leb, le-leb}
use lib.IntN.{ℤ, pos, negsuc, neg_ℤ, ◌+ℤ◌, pos-ne-negsuc}
use lib.Dec.{T, ltb→lt, nltb→le, not_T, lit≤}
use lib.Ieee.{Float, nan, inf, fin, binary64, up, down, minus, round, sum, add, sub, mul, neg, lt, le, eq, of_int, fits}
use lib.Ieee.Fits.{and_l, and_r, down_pos, add-fits}
use lib.Ieee.Exact.{HasValue}
use Rattle.float.specs.Arithmetic.{f64, number}
use Rattle.float.specs.Parts.{power_of}
use Rattle.float.proofs.Order.{lt_or_ge, nlt_of_le}
use Rattle.float.proofs.Whole.{sub_whole}
use Rattle.float.proofs.Pattern.{minus_same}
use Rattle.float.proofs.Units.{parts_of, reached}
use Rattle.float.proofs.Bound.{part_value}
use Rattle.exponential.specs.Exponential.{floor_of, turns_of, is_low, exp_by}
use Rattle.exponential.specs.Steps.{inside, low, Span, digits_of, Lifted, series_of}
use Rattle.exponential.proofs.Exponential.{plus_200, by_whole, by_two}
use Rattle.exponential.proofs.Floor.{inside_span, minus_below, ceiling, loss, all_loss, lifted_field}
use Rattle.exponential.proofs.Turns.{signed, close_whole}
use Rattle.exponential.proofs.Rest.{from_745, from_708, past_708}

-- ---- from −708 on one product
not_under : (s : Bool) (k : ℕ) → (s ≡ true → k ≤ 1021) → is_low (signed s k) ≡ false
not_under false k h = refl
not_under true zero h = refl
not_under true (suc k) h = le-ltb 1021 (suc k) (h refl)

inside_high : (x : Float) → Span 708 709 1 x → is_low (floor_of (turns_of x)) ≡ false
inside_high nan h = absurd h
inside_high (inf s) h = absurd h
inside_high (fin false m e) h =
    let n = close_whole false m e (omega arith) in
    ap is_low n.whole ∙ not_under false n.k (λ t. absurd (true≢false (sym t)))
inside_high (fin true m e) h =
    let n = close_whole true m e (omega arith) in
    ap is_low n.whole ∙ not_under true n.k (λ _. from_708 (m * up e) (down e) n.k n.close (down_pos e) h)

pub by_inside : (x n w : Float) → T (inside x) → n ≡ of_int binary64 (floor_of (turns_of x)) → w ≡ fin false 1 (floor_of (turns_of x)) →
    mul binary64 (series_of x n) w ≡ exp_by x (floor_of (turns_of x))
by_inside x n w h p q = by_whole x n w (floor_of (turns_of x)) (inside_high x (inside_span x h)) p q

-- ---- x below −708: y is from −1075 to −201
abbrev Low : Float → Type 0
Low nan = ⊥
Low (inf s) = ⊥
Low (fin false m e) = ⊥
Low (fin true m e) = (708 * down e ≤ m * up e) × (m * up e ≤ 745 * down e)

low_size : (x : Float) → T (low x) → Low x
unfolding of_int neg le lt eq
low_size nan h = absurd h
low_size (inf true) h = absurd h
low_size (inf false) h = absurd h
low_size (fin false m e) h = absurd (and_r (le (neg (number 745)) (fin false m e)) (lt (fin false m e) (neg (number 708))) h)
low_size (fin true m e) h =
    let x = fin true m e in
    let a = and_l (le (neg (number 745)) x) (lt x (neg (number 708))) h in
    let b = and_r (le (neg (number 745)) x) (lt x (neg (number 708))) h in
    let k : m * up e * 1 ≤ 745 * down e =
    nltb→le (745 * down e) (m * up e * 1) (not_T (lt x (neg (number 745))) (nlt_of_le x (neg (number 745)) a)) in
    let l : 708 * down e < m * up e * 1 = ltb→lt (708 * down e) (m * up e * 1) b in
    (omega arith, omega arith)

-- y, whose floor is −k
record LowTurns (y : Float) : Type 0 where
  pub m : ℕ
  pub e : ℤ
  pub is : y ≡ fin true m e
  pub least : 201 * down e ≤ m * up e
  pub most : m * up e ≤ 1075 * down e

low_turns : (k : ℕ) (y : Float) → floor_of y ≡ neg_ℤ (pos k) → 1021 ≤ k → k ≤ 1075 → LowTurns y
unfolding floor_of
low_turns zero y w l h = absurd (omega arith)
low_turns (suc k) nan w l h = absurd (pos-ne-negsuc 0 k w)
low_turns (suc k) (inf s) w l h = absurd (pos-ne-negsuc 0 k w)
low_turns (suc k) (fin false m e) w l h = absurd (pos-ne-negsuc (m * up e / down e) k w)
low_turns (suc k) (fin true m e) w l h =
    let a = m * up e in
    let d = down e in
    let c = (a + (d - 1)) / d in
    let i : c ≡ suc k = sym (all_loss c) ∙ ap loss w in
    let b = ceiling a d (down_pos e) in
    let p : a ≤ suc k * d = subst (λ (z : ℕ). a ≤ z * d) i b.0 in
    let q : suc k * d < a + d = subst (λ (z : ℕ). z * d < a + d) i b.1 in
    let u : suc k * d ≤ 1075 * d = mul-le-mul_right d h in
    let v : 1021 * d ≤ suc k * d = mul-le-mul_right d l in
    record { m = m; e = e; is = refl; least = omega arith; most = omega arith }

-- ---- y + 200 is exact
exact_part : (s : Bool) (n : ℕ) (e : ℤ) → n < 9007199254740992 → down e ≤ 2 ^ 1074 → HasValue (round binary64 s n (down e)) s n (down e)
exact_part s n (pos k) l h = part_value binary64 s n 0 l (lit≤ tt)
exact_part s n (negsuc k) l h = part_value binary64 s n (suc k) l (reached (suc k) 1074 h)

few_digits : (m : ℕ) (e : ℤ) → m < 9007199254740992 → m * up e ≤ 1075 * down e → m * up e - 200 * down e < 9007199254740992
few_digits m (pos k) l h = omega arith
few_digits m (negsuc k) l h = omega arith

less_200 : (m : ℕ) (e : ℤ) → T (fits binary64 (fin true m e)) → 201 * down e ≤ m * up e → m * up e ≤ 1075 * down e →
    HasValue (add binary64 (fin true m e) (number 200)) true (m * up e - 200 * down e) (down e)
unfolding add sum of_int
less_200 zero e f l h = absurd (none (up e) (down e) (down_pos e) l)
  where
    none : (u d : ℕ) → 0 < d → 201 * d ≤ 0 * u → ⊥
    none u d p l = omega arith
less_200 (suc m) e f l h =
    let p = parts_of binary64 true m e f in
    let a = suc m * up e in
    let d = down e in
    let o : 200 * d < a * 1 = omega (arith, down_pos e) in
    rw (le-ltb (a * 1) (200 * d) (omega arith), lt-ltb (200 * d) (a * 1) o, mul-one a, mul-one d)
    (exact_part true (a - 200 * d) e (few_digits (suc m) e p.few h) p.fine)

-- ---- so its floor is 200 more
ceil_less : (a d b f : ℕ) → 0 < d → 0 < f → 200 * d ≤ a → b * d ≡ (a - 200 * d) * f → (b + (f - 1)) / f + 200 ≡ (a + (d - 1)) / d
ceil_less a d b f D F l e =
    let c = (a + (d - 1)) / d in
    let g = (b + (f - 1)) / f in
    let p = ceiling a d D in
    let q = ceiling b f F in
    let u : a - 200 * d ≤ g * d =
    le_of_mul-le-mul_right (le_trans (le_of_eq (sym e)) (le_trans (mul-le-mul_right d q.0) (le_of_eq (mul_right_comm g f d)))) F in
    let s : (b + f) * d ≡ (a - 200 * d + d) * f =
    add-mul b f d
    ∙ ap (λ (z : ℕ). z + f * d) e
    ∙ ap (λ (z : ℕ). (a - 200 * d) * f + z) (mul_comm f d)
    ∙ sym (add-mul (a - 200 * d) d f) in
    let t : g * f * d < (b + f) * d = mul-lt-mul_of_pos_right q.1 D in
    let v : g * d < a - 200 * d + d =
    lt_of_mul-lt-mul_right f (other (g * d * f) (g * f * d) ((b + f) * d) ((a - 200 * d + d) * f) (mul_right_comm g d f) t s) in
    let x : c < g + 201 = lt_of_mul-lt-mul_right d (rw (add-mul g 201 d) (omega (arith, p.1))) in
    let y : g + 200 < c + 1 = lt_of_mul-lt-mul_right d (rw (add-mul g 200 d, add-mul c 1 d) (omega (arith, p.0))) in
    omega arith
  where
    other : (s t u v : ℕ) → s ≡ t → t < u → u ≡ v → s < v
    other s t u v i j k = omega arith

pub record LowWhole (x z : Float) : Type 0 where
  pub k : ℕ
  pub whole : floor_of (turns_of x) ≡ neg_ℤ (pos k)
  pub least : 1021 ≤ k
  pub most : k ≤ 1075
  pub floor : floor_of z ≡ neg_ℤ (pos (k - 200))
  pub span : Span 1022 2047 2 z

-- z is y + 200, of y = fin true m e
low_floor : (m : ℕ) (e : ℤ) (z : Float) → 201 * down e ≤ m * up e → HasValue z true (m * up e - 200 * down e) (down e) →
    floor_of z ≡ neg_ℤ (pos (loss (floor_of (fin true m e)) - 200))
unfolding floor_of
low_floor m e nan l v = absurd v
low_floor m e (inf s) l v = absurd v
low_floor m e (fin false n d) l v = absurd (true≢false (sym v.0))
low_floor m e (fin true n d) l v =
    let i = ceil_less (m * up e) (down e) (n * up d) (down d) (down_pos e) (down_pos d) (omega arith) v.1 in
    let c = (m * up e + (down e - 1)) / down e in
    let g = (n * up d + (down d - 1)) / down d in
    let j : g ≡ c - 200 = omega arith in
    ap (λ (q : ℕ). neg_ℤ (pos q)) (j ∙ ap (λ (q : ℕ). q - 200) (sym (all_loss c)))

low_span : (m : ℕ) (e : ℤ) (z : Float) → m * up e ≤ 1075 * down e → HasValue z true (m * up e - 200 * down e) (down e) → Span 1022 2047 2 z
low_span m e nan h v = v
low_span m e (inf s) h v = v
low_span m e (fin false n d) h v = absurd (true≢false (sym v.0))
low_span m e (fin true n d) h v =
    let l : (m * up e - 200 * down e) * down d ≤ 1022 * down e * down d = mul-le-mul_right (down d) (less (m * up e) (down e) h) in
    le_of_mul-le-mul_right (le_trans (le_of_eq v.1) (le_trans l (le_of_eq (mul_right_comm 1022 (down e) (down d))))) (down_pos e)
  where
    less : (a d : ℕ) → a ≤ 1075 * d → a - 200 * d ≤ 1022 * d
    less a d h = omega arith

pub low_whole : (x : Float) → T (low x) → LowWhole x (add binary64 (turns_of x) (number 200))
low_whole x h = go x (low_size x h)
  where
    go : (x : Float) → Low x → LowWhole x (add binary64 (turns_of x) (number 200))
    go nan l = absurd l
    go (inf s) l = absurd l
    go (fin false m e) l = absurd l
    go (fin true m e) l =
        let x = fin true m e in
        let n = close_whole true m e l.1 in
        let least = past_708 (m * up e) (down e) n.k n.close (down_pos e) l.0 in
        let most = from_745 (m * up e) (down e) n.k n.close (down_pos e) l.1 in
        let t = low_turns n.k (turns_of x) n.whole least most in
        let w = add-fits binary64 (mul binary64 x (f64 0x3FF71547652B82FE)) (f64 0x3FE0000000000000) in
        let v = less_200 t.m t.e (subst (λ (y : Float). T (fits binary64 y)) t.is w) t.least t.most in
        let i : add binary64 (turns_of x) (number 200) ≡ add binary64 (fin true t.m t.e) (number 200) =
        ap (λ (y : Float). add binary64 y (number 200)) t.is in
        let f : loss (floor_of (fin true t.m t.e)) ≡ n.k =
        ap (λ (y : Float). loss (floor_of y)) (sym t.is) ∙ ap loss n.whole ∙ all_loss n.k in
        record {
          k = n.k;
          whole = n.whole;
          least = least;
          most = most;
          floor =
              ap floor_of i
              ∙ low_floor t.m t.e (add binary64 (fin true t.m t.e) (number 200)) t.least v
              ∙ ap (λ (q : ℕ). neg_ℤ (pos (q - 200))) f;
          span = subst (Span 1022 2047 2) (sym i) (low_span t.m t.e (add binary64 (fin true t.m t.e) (number 200)) t.most v);
        }

-- ---- b, the exponent's field of 2^(n+200), is 1223 + n
loss_minus : (b c : ℕ) → loss (minus b c) ≡ c - b
loss_minus b c = elim (lt_or_ge b c) [
  | inl l ↦ rw (lt-leb c b l) (ahead b c l)
  | inr l ↦ rw (le-leb c b l) (behind b c l)
]
  where
    ahead : (b c : ℕ) → b < c → suc (c - suc b) ≡ c - b
    ahead b c l = omega arith

    behind : (b c : ℕ) → c ≤ b → 0 ≡ c - b
    behind b c l = omega arith

-- u is what `lifted` gives for y + 200, and b are its last digits
module _ (x u : Float) (h : T (low x)) (l : Lifted (floor_of (add binary64 (turns_of x) (number 200))) u) where
  n : LowWhole x (add binary64 (turns_of x) (number 200))
  n = low_whole x h

  field_is : digits_of u + n.k ≡ 1223
  field_is =
      let e : 1023 - l.b ≡ n.k - 200 = sym (loss_minus l.b 1023) ∙ ap loss (l.field.value ∙ n.floor) ∙ all_loss (n.k - 200) in
      rw (lifted_field _ u l) (omega (arith, n.least, n.most))

  pub low_field : (148 ≤ digits_of u) × (digits_of u ≤ 202)
  low_field = (omega (arith, field_is, n.most), omega (arith, field_is, n.least))

  -- n as a float
  whole_is : sub binary64 u (number 4503599627371719) ≡ of_int binary64 (floor_of (turns_of x))
  whole_is =
      let b = l.b in
      let e : b + n.k ≡ 1223 = omega (arith, lifted_field _ u l, field_is) in
      rw l.value (sub_whole binary64 (4503599627370496 + b) 4503599627371719 (omega (arith, l.field.most)) (lit≤ tt))
      ∙ ap (of_int binary64)
      (minus_same (4503599627370496 + b) 4503599627371719 b 1223 (omega arith) ∙ minus_below b n.k 1223 e ∙ sym n.whole)

  pub low_two : (p w : Float) → p ≡ series_of x (sub binary64 u (number 4503599627371719)) → w ≡ power_of (digits_of u)
      → digits_of u < 202
      → mul binary64 (mul binary64 p w) (fin false 1 (negsuc 199)) ≡ exp_by x (floor_of (turns_of x))
  low_two p w i j o =
      rw (i, j)
      (by_two x (sub binary64 u (number 4503599627371719)) (power_of (digits_of u)) (floor_of (turns_of x))
      (ap is_low n.whole ∙ is_under n.k (omega (arith, field_is))) whole_is
      (ap (fin false 1) (minus_below (digits_of u) (n.k - 200) 1023 (omega (arith, field_is, n.least))
      ∙ more_200 n.k n.least ∙ ap (λ (z : ℤ). z +ℤ pos 200) (sym n.whole))))
    where
      is_under : (k : ℕ) → 1021 < k → is_low (neg_ℤ (pos k)) ≡ true
      is_under zero o = absurd (omega arith)
      is_under (suc k) o = lt-ltb 1021 (suc k) o

      more_200 : (k : ℕ) → 1021 ≤ k → neg_ℤ (pos (k - 200)) ≡ neg_ℤ (pos k) +ℤ pos 200
      more_200 zero o = absurd (omega arith)
      more_200 (suc k) o =
          let e : suc k - 200 ≡ suc (suc k - 201) = omega arith in
          ap (λ (z : ℕ). neg_ℤ (pos z)) e ∙ sym (plus_200 k (omega arith))

  pub low_one : (p w : Float) → p ≡ series_of x (sub binary64 u (number 4503599627371719)) → w ≡ power_of (digits_of u - 200) →
      202 ≤ digits_of u → mul binary64 p w ≡ exp_by x (floor_of (turns_of x))
  low_one p w i j o =
      rw (i, j)
      (by_whole x (sub binary64 u (number 4503599627371719)) (power_of (digits_of u - 200)) (floor_of (turns_of x))
      (ap is_low n.whole ∙ not_under true n.k (λ _. omega (arith, field_is))) whole_is
      (ap (fin false 1) (minus_below (digits_of u - 200) n.k 1023 (omega (arith, field_is)) ∙ sym n.whole)))
