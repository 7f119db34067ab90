-- The floor of a float between −1022 and 2047/2, by adding 2^52 + 1023 to it and a comparison: y + 1023 is kept as an exact fraction, the
-- rounded sum is its whole part or one more, past 2^52, and the comparison says which. With the theorem that `floor_of` is the floor of
-- every finite float. Assumes nothing.
use mathlib.Core.Path.{◌≡◌, refl, sym, ap, ap₂, ◌∙◌, subst}
use mathlib.Core.Logic.{◌⊎◌, inl, inr}
use Prim.Native.Nat.{ℕ, zero, suc, ◌+◌, ◌-◌, ◌*◌, ◌/◌, ◌^◌, ◌≤◌, ◌<◌}
use native.Mathlib.Nat.{le_trans, lt_of_lt_of_le, mul-one, mul_comm, mul_assoc, mul_right_comm, mul-le-mul_right, mul-pos}
use native.Mathlib.Nat.{le-div_iff_mul-le, div-lt_iff_lt-mul, div-mul-le_self, add-mul, pow-suc}
use native.Mathlib.Nat.{lt_of_mul-lt-mul_right, mul-lt-mul_of_pos_right}
use native.Mathlib.Omega.{arith}
use mathlib.Core.Bool.{Bool, true, false, not, ◌&&◌, cond, true≢false}
use lib.IntN.{ℤ, pos, negsuc, neg_ℤ}
use lib.Pow.{pow_pos}
use lib.Dec.{T, ltb, ltb→lt, nltb→le, lit≤, lit<, not_T}
use borrow.Author.Tests.{lt-ltb, le-ltb, le-leb, lt-leb}
use lib.Ieee.{Float, nan, inf, fin, binary64, up, down, minus, round, sum, add}
use lib.Ieee.{sub, neg, mul, lt, le, eq, is_nan, of_int, of_bits, to_bits, fits}
use lib.Ieee.Fits.{and_l, and_r, down_pos, round-fits, of_int-fits}
use lib.Ieee.Exact.{HasValue}
use lib.Ieee.Back.{round_whole, whole_unique}
use Rattle.float.specs.Arithmetic.{f64, number}
use Rattle.exponential.specs.Exponential.{floor_of, turns_of}
use Rattle.exponential.specs.Steps.{inside, Span, FieldOf, digits_of, Lifted}
use Rattle.float.proofs.Order.{lt_or_ge, nlt_of_le}
use Rattle.float.proofs.Whole.{own, sub_whole}
use Rattle.float.proofs.Numbers.{whole_number}
use Rattle.float.proofs.Pattern.{minus_same}
use Rattle.float.proofs.Assemble.{whole_bits}
use Rattle.float.proofs.Units.{parts_of}
use Rattle.float.proofs.Bound.{Within, Over, Signed, Held, held_whole, round_signed, round_within, round_over}

pub inside_span : (x : Float) → T (inside x) → Span 708 709 1 x
unfolding of_int neg le lt eq
inside_span nan h = absurd h
inside_span (inf true) h = absurd h
inside_span (inf false) h = absurd h
inside_span (fin true m e) h =
    let x = fin true m e in
    let a = and_l (le (neg (number 708)) x) (le x (number 709)) h in
    let k : m * up e * 1 ≤ 708 * down e =
    nltb→le (708 * down e) (m * up e * 1) (not_T (lt x (neg (number 708))) (nlt_of_le x (neg (number 708)) a)) in
    omega arith
inside_span (fin false m e) h =
    let x = fin false m e in
    let b = and_r (le (neg (number 708)) x) (le x (number 709)) h in
    nltb→le (709 * down e) (m * up e * 1) (not_T (lt (number 709) x) (nlt_of_le (number 709) x b))

-- ---- x · c: a sign of its own, and a bound
span_of : (s : Bool) (v : Float) (B P Q : ℕ) → Signed s v → (s ≡ true → Within B 1 v) → (s ≡ false → Within P Q v) → Span B P Q v
span_of s nan B P Q g h k = g
span_of true (inf t) B P Q g h k = h refl
span_of false (inf t) B P Q g h k = k refl
span_of s (fin true m e) B P Q g h k = omega (arith, h (sym g))
span_of s (fin false m e) B P Q g h k = k (sym g)

pub scaled : (a d C K L B : ℕ) → a ≤ B * d → B * C ≤ K * L → a * C * 1 ≤ K * (d * L)
scaled a d C K L B h k =
    let x : a * C ≤ B * d * C = mul-le-mul_right C h in
    let y : B * C * d ≤ K * L * d = mul-le-mul_right d k in
    let p : B * d * C ≡ B * C * d = mul_right_comm B d C in
    let q : K * L * d ≡ K * (d * L) = mul_assoc K L d ∙ ap (λ (z : ℕ). K * z) (mul_comm L d) in
    omega arith

mul_span : (x : Float) → Span 708 709 1 x → Span 1022 1023 1 (mul binary64 x (f64 0x3FF71547652B82FE))
unfolding mul of_bits
mul_span nan h = h
mul_span (inf s) h = absurd h
mul_span (fin true m e) h =
    let n = m * up e * 3248660424278399 in
    let d = down e * 2251799813685248 in
    span_of true (round binary64 true n d) 1022 1023 1 (round_signed binary64 true n d)
    (λ _. round_within binary64 true n d 1022 1 (mul-pos (down_pos e) (lit< tt)) (lit< tt) (held_whole binary64 1022 (lit≤ tt))
    (scaled (m * up e) (down e) 3248660424278399 1022 2251799813685248 708 h (lit≤ tt)))
    (λ q. absurd (true≢false q))
mul_span (fin false m e) h =
    let n = m * up e * 3248660424278399 in
    let d = down e * 2251799813685248 in
    let g : m * up e ≤ 709 * down e = omega arith in
    span_of false (round binary64 false n d) 1022 1023 1 (round_signed binary64 false n d)
    (λ q. absurd (true≢false (sym q)))
    (λ _. round_within binary64 false n d 1023 1 (mul-pos (down_pos e) (lit< tt)) (lit< tt) (held_whole binary64 1023 (lit≤ tt))
    (scaled (m * up e) (down e) 3248660424278399 1023 2251799813685248 709 g (lit≤ tt)))

-- ---- and 0.5
held_half : Held binary64 2047 2
unfolding round
held_half = (refl, refl)

half_span : (z : Float) → Span 1022 1023 1 z → Span 1022 2047 2 (add binary64 z (f64 0x3FE0000000000000))
unfolding add sum of_bits
half_span nan h = h
half_span (inf s) h = absurd h
half_span (fin false m e) h =
    let n = m * up e * 2 + 1 * down e in
    let d = down e * 2 in
    span_of false (round binary64 false n d) 1022 2047 2 (round_signed binary64 false n d) (λ q. absurd (true≢false (sym q)))
    (λ _. round_within binary64 false n d 2047 2 (mul-pos (down_pos e) (lit< tt)) (lit< tt) held_half (omega arith))
half_span (fin true m e) h =
    go (ltb (m * up e * 2) (1 * down e)) (ltb (1 * down e) (m * up e * 2))
    (ltb→lt (m * up e * 2) (1 * down e)) (nltb→le (1 * down e) (m * up e * 2))
  where
    go : (t u : Bool) → (T t → m * up e * 2 < 1 * down e) → (T (not u) → m * up e * 2 ≤ 1 * down e) →
        Span 1022 2047 2
        (cond t (round binary64 false (1 * down e - m * up e * 2) (down e * 2))
        (round binary64 (true && u) (m * up e * 2 - 1 * down e) (down e * 2)))
    go true u f g =
        let n = 1 * down e - m * up e * 2 in
        span_of false (round binary64 false n (down e * 2)) 1022 2047 2 (round_signed binary64 false n (down e * 2))
        (λ q. absurd (true≢false (sym q)))
        (λ _. round_within binary64 false n (down e * 2) 2047 2 (mul-pos (down_pos e) (lit< tt)) (lit< tt) held_half (omega arith))
    go false true f g =
        let n = m * up e * 2 - 1 * down e in
        span_of true (round binary64 true n (down e * 2)) 1022 2047 2 (round_signed binary64 true n (down e * 2))
        (λ _. round_within binary64 true n (down e * 2) 1022 1 (mul-pos (down_pos e) (lit< tt)) (lit< tt)
        (held_whole binary64 1022 (lit≤ tt)) (omega arith))
        (λ q. absurd (true≢false q))
    go false false f g =
        let n = m * up e * 2 - 1 * down e in
        let z : n ≡ 0 = omega (arith, g tt) in
        span_of false (round binary64 false n (down e * 2)) 1022 2047 2 (round_signed binary64 false n (down e * 2))
        (λ q. absurd (true≢false (sym q)))
        (λ _. round_within binary64 false n (down e * 2) 2047 2 (mul-pos (down_pos e) (lit< tt)) (lit< tt) held_half (omega arith))

pub turns_span : (x : Float) → T (inside x) → Span 1022 2047 2 (turns_of x)
turns_span x h = half_span (mul binary64 x (f64 0x3FF71547652B82FE)) (mul_span x (inside_span x h))

-- ---- y + 1023, exactly, is N / D; y + 2^52 + 1023 is that, rounded, past 2^52
abbrev lifted : Bool → ℕ → ℕ → ℕ
lifted true a d = 1023 * d - a
lifted false a d = 1023 * d + a

abbrev num_of : Float → ℕ
num_of nan = 0
num_of (inf s) = 0
num_of (fin s m e) = lifted s (m * up e) (down e)

abbrev den_of : Float → ℕ
den_of nan = 1
den_of (inf s) = 1
den_of (fin s m e) = down e

den_pos : (y : Float) → 0 < den_of y
den_pos nan = lit< tt
den_pos (inf s) = lit< tt
den_pos (fin s m e) = down_pos e

num_low : (y : Float) → Span 1022 2047 2 y → den_of y ≤ num_of y
num_low nan h = absurd h
num_low (inf s) h = absurd h
num_low (fin true m e) h = omega arith
num_low (fin false m e) h = omega arith

num_high : (y : Float) → Span 1022 2047 2 y → num_of y < 2047 * den_of y
num_high nan h = absurd h
num_high (inf s) h = absurd h
num_high (fin true m e) h = omega (arith, down_pos e)
num_high (fin false m e) h = omega (arith, down_pos e)

shift : (y : Float) → Span 1022 2047 2 y →
    add binary64 y (number 4503599627371519) ≡ round binary64 false (4503599627370496 * den_of y + num_of y) (den_of y)
unfolding add sum of_int
shift nan h = absurd h
shift (inf s) h = absurd h
shift (fin false m e) h =
    let p : m * up e * 1 + 4503599627371519 * down e ≡ 4503599627370496 * down e + (1023 * down e + m * up e) = omega arith in
    ap₂ (round binary64 false) p (mul-one (down e))
shift (fin true m e) h =
    let l : m * up e * 1 < 4503599627371519 * down e = omega (arith, down_pos e) in
    let p : 4503599627371519 * down e - m * up e * 1 ≡ 4503599627370496 * down e + (1023 * down e - m * up e) = omega (arith, down_pos e) in
    rw (lt-ltb (m * up e * 1) (4503599627371519 * down e) l) (ap₂ (round binary64 false) p (mul-one (down e)))

-- ---- what the rounded sum is: from 2^52 on an f64 is a whole number
pub record Near (v : Float) (q : ℕ) : Type 0 where
  pub t : ℕ
  pub least : q ≤ t
  pub most : t ≤ q + 1
  pub value : v ≡ number (4503599627370496 + t)

-- with places after the point it would have more than 53 binary digits
no_places : (m k q : ℕ) → m < 9007199254740992 → (4503599627370496 + q) * 2 ^ suc k ≤ m * 1 * 1 → ⊥
no_places m k q l o = omega (arith, pow-suc 2 k, pow_pos k, mul-le-mul_right (2 ^ suc k) (le_self q))
  where
    le_self : (q : ℕ) → 4503599627370496 ≤ 4503599627370496 + q
    le_self q = omega arith

near_of : (v : Float) (q : ℕ) → q < 2047 → T (fits binary64 v) → Signed false v → Over (4503599627370496 + q) 1 v →
    Within (4503599627370496 + q + 1) 1 v → Near v q
near_of nan q l f s o w = absurd w
near_of (inf t) q l f s o w = absurd w
near_of (fin true m e) q l f s o w = absurd (true≢false s)
near_of (fin false zero e) q l f s o w = absurd (clash (down e) (up e) (down_pos e) o)
  where
    clash : (d u : ℕ) → 0 < d → (4503599627370496 + q) * d ≤ 0 * u * 1 → ⊥
    clash d u p o = omega (arith, mul-le-mul_right d (least q))
      where
        least : (q : ℕ) → 1 ≤ 4503599627370496 + q
        least q = omega arith
near_of (fin false (suc m) (negsuc k)) q l f s o w = absurd (no_places (suc m) k q (parts_of binary64 false m (negsuc k) f).few o)
near_of (fin false (suc m) (pos k)) q l f s o w =
    let a = suc m * 2 ^ k in
    let b = 4503599627370496 + (a - 4503599627370496) in
    let h : a * 1 ≡ b * 1 = omega arith in
    record {
      t = a - 4503599627370496;
      least = omega arith;
      most = omega arith;
      value = whole_unique binary64 (fin false (suc m) (pos k)) (number b) false b f (of_int-fits binary64 (pos b)) (refl, h)
          (own binary64 b (omega arith));
    }

whole_low : (N D : ℕ) → 0 < D → D ≤ N → N < 2047 * D → (0 < N / D) × (N / D < 2047)
whole_low N D d l h = ((le-div_iff_mul-le d).1 (omega arith), (div-lt_iff_lt-mul d).1 h)

pub whole_next : (N D : ℕ) → 0 < D → N < (N / D + 1) * D
whole_next N D d = (div-lt_iff_lt-mul d).0 (omega arith)

near : (y : Float) → Span 1022 2047 2 y → Near (add binary64 y (number 4503599627371519)) (num_of y / den_of y)
near y h =
    let N = num_of y in
    let D = den_of y in
    let d = den_pos y in
    let b = whole_low N D d (num_low y h) (num_high y h) in
    let q = N / D in
    let n : N < (q + 1) * D = whole_next N D d in
    let m : q * D ≤ N = div-mul-le_self N D in
    let i : (4503599627370496 + q) * D ≡ 4503599627370496 * D + q * D = add-mul 4503599627370496 q D in
    let j : (4503599627370496 + q + 1) * D ≡ (4503599627370496 + q) * D + 1 * D = add-mul (4503599627370496 + q) 1 D in
    let k : (q + 1) * D ≡ q * D + 1 * D = add-mul q 1 D in
    let S = 4503599627370496 * D + N in
    subst (λ (v : Float). Near v q) (sym (shift y h))
    (near_of (round binary64 false S D) q b.1 (round-fits binary64 false S D) (round_signed binary64 false S D)
    (round_over binary64 S D (4503599627370496 + q) 1 d (lit< tt)
    (held_whole binary64 (4503599627370496 + q) (omega (arith, b.1))) (omega arith))
    (round_within binary64 false S D (4503599627370496 + q + 1) 1 d (lit< tt)
    (held_whole binary64 (4503599627370496 + q + 1) (omega (arith, b.1))) (omega arith)))

-- ---- y < t - 1023 says that y + 1023 < t
ltb_iff : (x y u v : ℕ) → (x < y → u < v) → (u < v → x < y) → ltb x y ≡ ltb u v
ltb_iff x y u v f g = elim (lt_or_ge x y) [
  | inl l ↦ lt-ltb x y l ∙ sym (lt-ltb u v (f l))
  | inr l ↦ le-ltb x y l ∙ sym (le-ltb u v (other (lt_or_ge u v) l))
]
  where
    other : (u < v) ⊎ (v ≤ u) → y ≤ x → v ≤ u
    other (inl p) l = absurd (clash (g p) l)
      where
        clash : x < y → y ≤ x → ⊥
        clash p q = omega arith
    other (inr p) l = p

module _ (a D b D' K : ℕ) (hd : 0 < D) (hd' : 0 < D') (h : b * 1 ≡ K * D') where
  same : b * D ≡ K * D * D'
  same = ap (λ (z : ℕ). z * D) (sym (mul-one b) ∙ h) ∙ mul_right_comm K D' D

  less : ltb (a * D') (b * D) ≡ ltb a (K * D)
  less = rw same (ltb_iff (a * D') (K * D * D') a (K * D) (λ l. lt_of_mul-lt-mul_right D' l) (λ l. mul-lt-mul_of_pos_right l hd'))

  more : ltb (b * D) (a * D') ≡ ltb (K * D) a
  more = rw same (ltb_iff (K * D * D') (a * D') (K * D) a (λ l. lt_of_mul-lt-mul_right D' l) (λ l. mul-lt-mul_of_pos_right l hd'))

  some : ltb 0 (a * D' + b * D) ≡ ltb 0 (a + K * D)
  some = ltb_iff 0 (a * D' + b * D) 0 (a + K * D) to from
    where
      e : a * D' + b * D ≡ (a + K * D) * D'
      e = ap (λ (z : ℕ). a * D' + z) same ∙ sym (add-mul a (K * D) D')

      to : 0 < a * D' + b * D → 0 < a + K * D
      to l = lt_of_mul-lt-mul_right D' (rw (← e) (omega arith))

      from : 0 < a + K * D → 0 < a * D' + b * D
      from l = rw e (mul-pos l hd')

whole_at : (s : Bool) (k : ℕ) → k ≤ 2048 → HasValue (round binary64 s k 1) s k 1
whole_at s k h = round_whole binary64 s k (omega arith)

back : (t b : ℕ) → b ≤ t → t ≡ t - b + b
back t b l = omega arith

lt_up : (y k : Float) (t : ℕ) → Span 1022 2047 2 y → 1023 ≤ t → HasValue k false (t - 1023) 1 → lt y k ≡ ltb (num_of y) (t * den_of y)
unfolding lt
lt_up nan k t h l v = absurd h
lt_up (inf s) k t h l v = absurd h
lt_up (fin s m e) nan t h l v = absurd v
lt_up (fin s m e) (inf s') t h l v = absurd v
lt_up (fin s m e) (fin true n d) t h l v = absurd (true≢false v.0)
lt_up (fin false m e) (fin false n d) t h l v =
    let K = t - 1023 in
    let g : t * down e ≡ K * down e + 1023 * down e = ap (λ (z : ℕ). z * down e) (back t 1023 l) ∙ add-mul K 1023 (down e) in
    less (m * up e) (down e) (n * up d) (down d) K (down_pos e) (down_pos d) v.1
    ∙ ltb_iff (m * up e) (K * down e) (1023 * down e + m * up e) (t * down e) (λ p. omega arith) (λ p. omega arith)
lt_up (fin true m e) (fin false n d) t h l v =
    let K = t - 1023 in
    let g : t * down e ≡ K * down e + 1023 * down e = ap (λ (z : ℕ). z * down e) (back t 1023 l) ∙ add-mul K 1023 (down e) in
    some (m * up e) (down e) (n * up d) (down d) K (down_pos e) (down_pos d) v.1
    ∙ ltb_iff 0 (m * up e + K * down e) (1023 * down e - m * up e) (t * down e)
    (λ p. omega (arith, down_pos e)) (λ p. omega (arith, down_pos e))

lt_down : (y k : Float) (t : ℕ) → Span 1022 2047 2 y → t < 1023 → HasValue k true (1023 - t) 1 → lt y k ≡ ltb (num_of y) (t * den_of y)
unfolding lt
lt_down nan k t h l v = absurd h
lt_down (inf s) k t h l v = absurd h
lt_down (fin s m e) nan t h l v = absurd v
lt_down (fin s m e) (inf s') t h l v = absurd v
lt_down (fin s m e) (fin false n d) t h l v = absurd (true≢false (sym v.0))
lt_down (fin false m e) (fin true n d) t h l v =
    let g : t * down e ≤ 1023 * down e = mul-le-mul_right (down e) (omega arith) in
    sym (le-ltb (1023 * down e + m * up e) (t * down e) (omega arith))
lt_down (fin true m e) (fin true n d) t h l v =
    let K = 1023 - t in
    let g : 1023 * down e ≡ t * down e + K * down e = ap (λ (z : ℕ). z * down e) (join t l) ∙ add-mul t K (down e) in
    more (m * up e) (down e) (n * up d) (down d) K (down_pos e) (down_pos d) v.1
    ∙ ltb_iff (K * down e) (m * up e) (1023 * down e - m * up e) (t * down e) (λ p. omega arith) (λ p. omega arith)
  where
    join : (t : ℕ) → t < 1023 → 1023 ≡ t + (1023 - t)
    join t l = omega arith

lt_shift : (y : Float) (t : ℕ) → Span 1022 2047 2 y → t ≤ 2048 → lt y (of_int binary64 (minus t 1023)) ≡ ltb (num_of y) (t * den_of y)
unfolding of_int
lt_shift y t h b = elim (lt_or_ge t 1023) [
  | inl l ↦
      let n : suc (1023 - suc t) ≡ 1023 - t = omega arith in
      rw (lt-leb 1023 t l, n) (lt_down y (round binary64 true (1023 - t) 1) t h l (whole_at true (1023 - t) (omega arith)))
  | inr l ↦ rw (le-leb 1023 t l) (lt_up y (round binary64 false (t - 1023) 1) t h l (whole_at false (t - 1023) (omega arith)))
]

-- ---- so one comes off where the comparison says so
under : (N D t : ℕ) → 0 < D → N / D ≤ t → t ≤ N / D + 1 → ltb N (t * D) ≡ true → t - 1 ≡ N / D
under N D t d l m e =
    elim (lt_or_ge (N / D) t) [
      | inl p ↦ omega arith
      | inr p ↦ absurd (clash (le_trans (mul-le-mul_right D p) (div-mul-le_self N D)))
    ]
  where
    clash : t * D ≤ N → ⊥
    clash p = true≢false (sym e ∙ le-ltb N (t * D) p)

over : (N D t : ℕ) → 0 < D → N / D ≤ t → t ≤ N / D + 1 → ltb N (t * D) ≡ false → t ≡ N / D
over N D t d l m e =
    elim (lt_or_ge (N / D) t) [
      | inl p ↦ absurd (clash (lt_of_lt_of_le (whole_next N D d) (mul-le-mul_right D (omega arith))))
      | inr p ↦ omega arith
    ]
  where
    clash : N < t * D → ⊥
    clash p = true≢false (sym (lt-ltb N (t * D) p) ∙ e)

-- ---- the field, less 1023, is the floor
quotient : (n d q : ℕ) → 0 < d → q * d ≤ n → n < (q + 1) * d → n / d ≡ q
quotient n d q D l h =
    let a : q ≤ n / d = (le-div_iff_mul-le D).1 l in
    let b : n / d < q + 1 = (div-lt_iff_lt-mul D).1 h in
    omega arith

-- c, the whole part of (a + (d − 1)) / d, is the least whole number not below a / d
pub ceiling : (a d : ℕ) → 0 < d → (a ≤ (a + (d - 1)) / d * d) × ((a + (d - 1)) / d * d < a + d)
ceiling a d D =
    let c = (a + (d - 1)) / d in
    let l : c * d ≤ a + (d - 1) = div-mul-le_self (a + (d - 1)) d in
    let h : a + (d - 1) < (c + 1) * d = whole_next (a + (d - 1)) d D in
    let e : (c + 1) * d ≡ c * d + 1 * d = add-mul c 1 d in
    (omega arith, omega arith)

pub minus_below : (b k c : ℕ) → b + k ≡ c → minus b c ≡ neg_ℤ (pos k)
minus_below b zero c e = minus_same b c 0 0 (omega arith)
minus_below b (suc k) c e = minus_same b c 0 (suc k) (omega arith) ∙ rw (lt-leb (suc k) 0 (omega arith)) (ap negsuc (one_less k))
  where
    one_less : (k : ℕ) → suc k - 1 ≡ k
    one_less k = omega arith

above_by : (q : ℕ) → minus (1023 + q) 1023 ≡ pos q
above_by q =
    let e : 1023 + q - 1023 ≡ q = omega arith in
    rw (le-leb 1023 (1023 + q) (omega arith)) (ap pos e)

field_floor : (y : Float) → Span 1022 2047 2 y → minus (num_of y / den_of y) 1023 ≡ floor_of y
unfolding floor_of
field_floor nan h = absurd h
field_floor (inf s) h = absurd h
field_floor (fin false m e) h =
    let a = m * up e in
    let d = down e in
    let q = a / d in
    let l : q * d ≤ a = div-mul-le_self a d in
    let n : a < (q + 1) * d = whole_next a d (down_pos e) in
    let f : (1023 + q) * d ≡ 1023 * d + q * d = add-mul 1023 q d in
    let g : (1023 + q + 1) * d ≡ (1023 + q) * d + 1 * d = add-mul (1023 + q) 1 d in
    let k : (q + 1) * d ≡ q * d + 1 * d = add-mul q 1 d in
    ap (λ (z : ℕ). minus z 1023) (quotient (1023 * d + a) d (1023 + q) (down_pos e) (omega arith) (omega arith)) ∙ above_by q
field_floor (fin true m e) h =
    let a = m * up e in
    let d = down e in
    let c = (a + (d - 1)) / d in
    let b = ceiling a d (down_pos e) in
    let s : c < 1024 = lt_of_mul-lt-mul_right d (omega (arith, b.1)) in
    let r = 1023 - c in
    let j : 1023 ≡ r + c = omega arith in
    let f : 1023 * d ≡ r * d + c * d = ap (λ (z : ℕ). z * d) j ∙ add-mul r c d in
    let g : (r + 1) * d ≡ r * d + 1 * d = add-mul r 1 d in
    ap (λ (z : ℕ). minus z 1023) (quotient (1023 * d - a) d r (down_pos e) (omega (arith, b.0)) (omega (arith, b.1)))
    ∙ minus_below r c 1023 (omega arith)

-- 2^52 + b less 2^52 + 1023, and less 1
unbias : (b : ℕ) → b ≤ 2048 → sub binary64 (number (4503599627370496 + b)) (number 4503599627371519) ≡ of_int binary64 (minus b 1023)
unbias b l =
    sub_whole binary64 (4503599627370496 + b) 4503599627371519 (omega arith) (lit≤ tt)
    ∙ ap (of_int binary64) (minus_same (4503599627370496 + b) 4503599627371519 b 1023 (omega arith))

one_less : (t : ℕ) → 0 < t → t ≤ 2048 → sub binary64 (number (4503599627370496 + t)) (number 1) ≡ number (4503599627370496 + (t - 1))
one_less t p l =
    let e : 4503599627370496 + t - 1 ≡ 4503599627370496 + (t - 1) = omega arith in
    sub_whole binary64 (4503599627370496 + t) 1 (omega arith) (lit≤ tt)
    ∙ ap (of_int binary64) (rw (le-leb 1 (4503599627370496 + t) (omega arith)) (ap pos e))

pub lifted_whole : (n : ℤ) (u : Float) → Lifted n u → sub binary64 u (number 4503599627371519) ≡ of_int binary64 n
lifted_whole n u l = rw l.value (unbias l.b (omega (arith, l.field.most))) ∙ ap (of_int binary64) l.field.value

pub lifted_field : (n : ℤ) (u : Float) (l : Lifted n u) → digits_of u ≡ l.b
lifted_field n u l =
    let m = l.field.most in
    let e : to_bits binary64 u ≡ 1074 * 4503599627370496 + (4503599627370496 + l.b) =
    ap (to_bits binary64) l.value ∙ whole_bits (4503599627370496 + l.b) (omega arith) (omega arith) in
    omega (arith, e)

pub field_within : (n : ℤ) (u : Float) → Lifted n u → (0 < digits_of u) × (digits_of u < 2047)
field_within n u l = rw (lifted_field n u l) (l.field.least, l.field.most)

pub lifted_number : (n : ℤ) (u : Float) → Lifted n u → T (not (is_nan u))
lifted_number n u l = rw l.value (whole_number binary64 (4503599627370496 + l.b))

module _ (y : Float) (h : Span 1022 2047 2 y) where
  bounds : (0 < num_of y / den_of y) × (num_of y / den_of y < 2047)
  bounds = whole_low (num_of y) (den_of y) (den_pos y) (num_low y h) (num_high y h)

  is_field : (b : ℕ) → b ≡ num_of y / den_of y → FieldOf (floor_of y) b
  is_field b e = record {
    value = ap (λ (z : ℕ). minus z 1023) e ∙ field_floor y h;
    least = omega (arith, bounds.0);
    most = omega (arith, bounds.1);
  }

  -- the comparison in code is that of the exact fraction with the whole number near it
  tested : (t : ℕ) (s : Float) (r : Bool) → t ≤ 2048 → s ≡ number (4503599627370496 + t) →
      lt y (sub binary64 s (number 4503599627371519)) ≡ r → ltb (num_of y) (t * den_of y) ≡ r
  tested t s r b e g =
      let k : sub binary64 s (number 4503599627371519) ≡ of_int binary64 (minus t 1023) = rw e (unbias t (omega arith)) in
      sym (lt_shift y t h b) ∙ ap (lt y) (sym k) ∙ g

  pub takes : (s : Float) → s ≡ add binary64 y (number 4503599627371519) → lt y (sub binary64 s (number 4503599627371519)) ≡ true →
      Lifted (floor_of y) (sub binary64 s (number 1))
  takes s e g =
      let c = near y h in
      let v = e ∙ c.value in
      let l : c.t ≤ 2048 = omega (arith, c.most, bounds.1) in
      record {
        b = c.t - 1;
        field = is_field (c.t - 1) (under (num_of y) (den_of y) c.t (den_pos y) c.least c.most (tested c.t s true l v g));
        value = rw v (one_less c.t (omega (arith, c.least, bounds.0)) l);
      }

  pub keeps : (s : Float) → s ≡ add binary64 y (number 4503599627371519) → lt y (sub binary64 s (number 4503599627371519)) ≡ false →
      Lifted (floor_of y) s
  keeps s e g =
      let c = near y h in
      let v = e ∙ c.value in
      let l : c.t ≤ 2048 = omega (arith, c.most, bounds.1) in
      record {
        b = c.t;
        field = is_field c.t (over (num_of y) (den_of y) c.t (den_pos y) c.least c.most (tested c.t s false l v g));
        value = v;
      }

-- ---- `floor_of` is the floor: n ≤ y < n + 1, where n is gain n − loss n and y is (gain − loss) / down e, each side times down e and with
-- what is taken off on the other side
abbrev pub gain : ℤ → ℕ
gain (pos k) = k
gain (negsuc k) = 0

abbrev pub loss : ℤ → ℕ
loss (pos k) = 0
loss (negsuc k) = suc k

pub record IsFloor (n : ℤ) (s : Bool) (a d : ℕ) : Type 0 where
  pub least : gain n * d + cond s a 0 ≤ cond s 0 a + loss n * d
  pub most : cond s 0 a + loss n * d < (gain n + 1) * d + cond s a 0

no_gain : (c : ℕ) → gain (neg_ℤ (pos c)) ≡ 0
no_gain zero = refl
no_gain (suc c) = refl

pub all_loss : (c : ℕ) → loss (neg_ℤ (pos c)) ≡ c
all_loss zero = refl
all_loss (suc c) = refl

pub floor_is : (s : Bool) (m : ℕ) (e : ℤ) → IsFloor (floor_of (fin s m e)) s (m * up e) (down e)
unfolding floor_of
floor_is false m e =
    record {
      least = omega (arith, div-mul-le_self (m * up e) (down e));
      most = omega (arith, whole_next (m * up e) (down e) (down_pos e));
    }
floor_is true m e =
    let b = ceiling (m * up e) (down e) (down_pos e) in
    let c = (m * up e + (down e - 1)) / down e in
    record {
      least = rw (no_gain c, all_loss c) (omega (arith, b.0));
      most = rw (no_gain c, all_loss c) (omega (arith, b.1));
    }
