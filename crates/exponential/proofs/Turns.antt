-- The whole number n of an x from −745 to 709 lies within 257/512 of x·1.4426950408889634, by bounds that the format holds: each is kept
-- by the two roundings. Assumes nothing.
use mathlib.Core.Path.{◌≡◌, refl, sym, ap, ap₂, ◌∙◌, subst}
use mathlib.Core.Logic.{inl, inr}
use Prim.Native.Nat.{ℕ, zero, suc, ◌+◌, ◌-◌, ◌*◌, ◌/◌, ◌≤◌, ◌<◌}
use native.Mathlib.Nat.{add-mul, suc-mul, mul_assoc}
use native.Mathlib.Nat.{mul-pos, div-lt_iff_lt-mul, div-mul-le_self, lt_of_mul-lt-mul_right}
use native.Mathlib.Omega.{arith}
use mathlib.Core.Bool.{Bool, true, false, not, ◌&&◌, cond}
use lib.IntN.{ℤ, pos, neg_ℤ}
use lib.Dec.{T, ltb, ltb→lt, nltb→le, lit<, lit≤}
use lib.Ieee.{Float, fin, binary64, up, down, round, sum, add, mul, of_bits}
use lib.Ieee.Fits.{down_pos}
use Rattle.float.specs.Arithmetic.{f64}
use Rattle.float.proofs.Order.{lt_or_ge}
use Rattle.float.proofs.Bound.{Within, Held, held_whole, held_part, finite_of, round_signed, round_within, Rounds, rounds}
use Rattle.exponential.specs.Exponential.{floor_of, turns_of}
use Rattle.exponential.proofs.Floor.{scaled, whole_next, ceiling}

-- ---- k lies within 257/512 of A / D
pub record Close (A D k : ℕ) : Type 0 where
  pub least : 512 * (k * D) ≤ 512 * A + 257 * D
  pub most : 512 * A ≤ 512 * (k * D) + 257 * D

spread : (k j D : ℕ) → (512 * k + j) * D ≡ 512 * (k * D) + j * D
spread k j D = add-mul (512 * k) j D ∙ ap (λ (z : ℕ). z + j * D) (mul_assoc 512 k D)

close_by : (A D k : ℕ) → ((512 * k + 257) * D ≤ A * 512 → ⊥) → ((j : ℕ) → k ≡ suc j → A * 512 ≤ (512 * j + 255) * D → ⊥) → Close A D k
close_by A D k h l =
    record {
      least = go k refl;
      most = elim (lt_or_ge (A * 512) ((512 * k + 257) * D)) [
        | inl p ↦ omega (arith, spread k 257 D)
        | inr p ↦ absurd (h p)
      ];
    }
  where
    go : (i : ℕ) → k ≡ i → 512 * (k * D) ≤ 512 * A + 257 * D
    go zero e = rw e (omega arith)
    go (suc j) e = elim (lt_or_ge ((512 * j + 255) * D) (A * 512)) [
      | inl p ↦ let x : k * D ≡ j * D + D = ap (λ (z : ℕ). z * D) e ∙ suc-mul j D in omega (arith, spread j 255 D)
      | inr p ↦ absurd (l j e p)
    ]

-- ---- A / D is rounded to b / d, that with a half added or taken off to g / f: a bound of p 512ths becomes one of q
record Moved (A D g f p q : ℕ) : Type 0 where
  over : p * D ≤ A * 512 → q * f ≤ g * 512
  within : A * 512 ≤ p * D → g * 512 ≤ q * f

held : (p : ℕ) → p < 1048576 → Held binary64 p 512
held p l = held_part binary64 p 9 (omega arith) (lit≤ tt)

module _ (A D b d g f : ℕ) (t : Rounds binary64 A D b d) where
  twice : (p : ℕ) → (p + 256) * (d * 2) ≡ p * d * 2 + 512 * d
  twice p = add-mul p 256 (d * 2) ∙ ap₂ (λ (v w : ℕ). v + w) (sym (mul_assoc p d 2)) (omega arith)

  added : Rounds binary64 (b * 2 + 1 * d) (d * 2) g f → (p : ℕ) → p < 1000000 → Moved A D g f p (p + 256)
  added y p l =
      record {
        over = λ h. let q = t.over p 512 (lit< tt) (held p (omega arith)) h in
            y.over (p + 256) 512 (lit< tt) (held (p + 256) (omega arith)) (omega (arith, twice p));
        within = λ h. let q = t.within p 512 (lit< tt) (held p (omega arith)) h in
            y.within (p + 256) 512 (lit< tt) (held (p + 256) (omega arith)) (omega (arith, twice p));
      }

  taken : Rounds binary64 (b * 2 - 1 * d) (d * 2) g f → 1 * d < b * 2 → (p : ℕ) → p < 1000000 → Moved A D g f (p + 256) p
  taken y o p l =
      let w : p * (d * 2) ≡ p * d * 2 = sym (mul_assoc p d 2) in
      let x : (p + 256) * d ≡ p * d + 256 * d = add-mul p 256 d in
      record {
        over = λ h. let q = t.over (p + 256) 512 (lit< tt) (held (p + 256) (omega arith)) h in
            y.over p 512 (lit< tt) (held p (omega arith)) (omega arith);
        within = λ h. let q = t.within (p + 256) 512 (lit< tt) (held (p + 256) (omega arith)) h in
            y.within p 512 (lit< tt) (held p (omega arith)) (omega arith);
      }

  -- k is the floor of g / f; below zero it is the ceiling
  above : Rounds binary64 (b * 2 + 1 * d) (d * 2) g f → 0 < f → (k : ℕ) → k ≤ 1076 → k * f ≤ g → g < (k + 1) * f → Close A D k
  above y F k K l u =
      close_by A D k (λ h. most ((added y (512 * k + 257) (omega arith)).over h))
      (λ j e h. least j (ap (λ (z : ℕ). z * f) e ∙ suc-mul j f) ((added y (512 * j + 255) (omega arith)).within h))
    where
      most : (512 * k + 257 + 256) * f ≤ g * 512 → ⊥
      most h =
          let x : (512 * k + 257 + 256) * f ≡ 512 * (k * f) + 513 * f = ap (λ (z : ℕ). z * f) (omega arith) ∙ spread k 513 f in
          omega (arith, add-mul k 1 f)

      least : (j : ℕ) → k * f ≡ j * f + f → g * 512 ≤ (512 * j + 255 + 256) * f → ⊥
      least j e h =
          let x : (512 * j + 255 + 256) * f ≡ 512 * (j * f) + 511 * f = ap (λ (z : ℕ). z * f) (omega arith) ∙ spread j 511 f in
          omega arith

  below : Rounds binary64 (b * 2 - 1 * d) (d * 2) g f → 1 * d < b * 2 → 0 < f → (k : ℕ) → k ≤ 1076 → g ≤ k * f → k * f < g + f → Close A D k
  below y o F k K u l =
      close_by A D k (λ h. most ((taken y o (512 * k + 1) (omega arith)).over (rw (plus k 1) h)))
      (λ j e h. least j (ap (λ (z : ℕ). z * f) e ∙ suc-mul j f) ((taken y o (512 * j) (omega arith)).within (wider j h)))
    where
      plus : (k c : ℕ) → 512 * k + c + 256 ≡ 512 * k + (c + 256)
      plus k c = omega arith

      most : (512 * k + 1) * f ≤ g * 512 → ⊥
      most h = omega (arith, spread k 1 f)

      wider : (j : ℕ) → A * 512 ≤ (512 * j + 255) * D → A * 512 ≤ (512 * j + 256) * D
      wider j h = omega (arith, spread j 255 D, spread j 256 D)

      least : (j : ℕ) → k * f ≡ j * f + f → g * 512 ≤ 512 * j * f → ⊥
      least j e h = omega (arith, mul_assoc 512 j f)

-- ---- n is k with the sign s, and k is close
abbrev pub signed : Bool → ℕ → ℤ
signed false k = pos k
signed true k = neg_ℤ (pos k)

pub record CloseWhole (s : Bool) (A D : ℕ) (n : ℤ) : Type 0 where
  pub k : ℕ
  pub whole : n ≡ signed s k
  pub bound : k ≤ 1076
  pub close : Close A D k

-- −½ ≤ −b / d, so that n is 0: with a half added it is a / (2·d), and ½ at most
none : (A D b d a : ℕ) → Rounds binary64 A D b d → 0 < d → b * 2 ≤ 1 * d → a ≤ 1 * d →
    CloseWhole true A D (floor_of (round binary64 false a (d * 2)))
unfolding floor_of
none A D b d a t C h l =
    let w = round_within binary64 false a (d * 2) 1 2 (mul-pos C (lit< tt)) (lit< tt) (held_part binary64 1 1 (lit< tt) (lit≤ tt))
    (omega arith) in
    let y = finite_of false (round binary64 false a (d * 2)) 1 2 (round_signed binary64 false a (d * 2)) w in
    subst (λ (z : Float). CloseWhole true A D (floor_of z)) (sym y.is)
    (record {
      k = 0;
      whole = ap pos (small_floor (y.m * up y.e) (down y.e) (down_pos y.e) (subst (Within 1 2) y.is w));
      bound = lit≤ tt;
      close = close_by A D 0 (λ p. clash (t.over 257 512 (lit< tt) (held 257 (lit< tt)) p)) (λ j q p. no_suc j q);
    })
  where
    small_floor : (g f : ℕ) → 0 < f → g * 2 ≤ 1 * f → g / f ≡ 0
    small_floor g f F h = let l : g / f < 1 = (div-lt_iff_lt-mul F).1 (omega arith) in omega arith

    clash : 257 * d ≤ b * 512 → ⊥
    clash o = omega arith

    no_suc : (j : ℕ) → 0 ≡ suc j → ⊥
    no_suc j q = omega arith

at_most : (q g f : ℕ) → q * f ≤ g → g * 1 ≤ 1076 * f → 0 < f → q ≤ 1076
at_most q g f h k F =
    let l : q < 1077 = lt_of_mul-lt-mul_right f (omega arith) in
    omega arith

-- a float's half more
half_above : (A D m : ℕ) (e : ℤ) → Rounds binary64 A D (m * up e) (down e) → m * up e * 1 ≤ 1075 * down e →
    CloseWhole false A D (floor_of (add binary64 (fin false m e) (f64 0x3FE0000000000000)))
unfolding add sum of_bits floor_of
half_above A D m e t h =
    let b = m * up e in
    let d = down e in
    let c : 0 < d * 2 = mul-pos (down_pos e) (lit< tt) in
    let v = round binary64 false (b * 2 + 1 * d) (d * 2) in
    let w = round_within binary64 false (b * 2 + 1 * d) (d * 2) 1076 1 c (lit< tt) (held_whole binary64 1076 (lit≤ tt))
    (omega (arith, down_pos e)) in
    let y = finite_of false v 1076 1 (round_signed binary64 false (b * 2 + 1 * d) (d * 2)) w in
    let r = rounds binary64 false (b * 2 + 1 * d) (d * 2) y.m y.e c y.is in
    let g = y.m * up y.e in
    let f = down y.e in
    let F = down_pos y.e in
    let k = g / f in
    let K : k ≤ 1076 = at_most k g f (div-mul-le_self g f) (subst (Within 1076 1) y.is w) F in
    subst (λ (z : Float). CloseWhole false A D (floor_of z)) (sym y.is)
    (record {
      k = k;
      whole = refl;
      bound = K;
      close = above A D b d g f t r F k K (div-mul-le_self g f) (whole_next g f F);
    })

half_below : (A D m : ℕ) (e : ℤ) → Rounds binary64 A D (m * up e) (down e) → m * up e * 1 ≤ 1075 * down e →
    CloseWhole true A D (floor_of (add binary64 (fin true m e) (f64 0x3FE0000000000000)))
unfolding add sum of_bits floor_of
half_below A D m e t h =
    go (ltb (m * up e * 2) (1 * down e)) (ltb (1 * down e) (m * up e * 2))
    (ltb→lt (m * up e * 2) (1 * down e)) (nltb→le (1 * down e) (m * up e * 2)) (ltb→lt (1 * down e) (m * up e * 2))
  where
    go : (p q : Bool) → (T p → m * up e * 2 < 1 * down e) → (T (not q) → m * up e * 2 ≤ 1 * down e) → (T q → 1 * down e < m * up e * 2) →
        CloseWhole true A D (floor_of
        (cond p (round binary64 false (1 * down e - m * up e * 2) (down e * 2))
        (round binary64 (true && q) (m * up e * 2 - 1 * down e) (down e * 2))))
    go true q i j o =
        none A D (m * up e) (down e) (1 * down e - m * up e * 2) t (down_pos e) (omega (arith, i tt)) (omega arith)
    go false false i j o =
        none A D (m * up e) (down e) (m * up e * 2 - 1 * down e) t (down_pos e) (j tt) (omega (arith, j tt))
    go false true i j o =
        let b = m * up e in
        let d = down e in
        let c : 0 < d * 2 = mul-pos (down_pos e) (lit< tt) in
        let w = round_within binary64 true (b * 2 - 1 * d) (d * 2) 1075 1 c (lit< tt) (held_whole binary64 1075 (lit≤ tt)) (omega arith) in
        let y = finite_of true (round binary64 true (b * 2 - 1 * d) (d * 2)) 1075 1
        (round_signed binary64 true (b * 2 - 1 * d) (d * 2)) w in
        let r = rounds binary64 true (b * 2 - 1 * d) (d * 2) y.m y.e c y.is in
        let g = y.m * up y.e in
        let f = down y.e in
        let F = down_pos y.e in
        let k = (g + (f - 1)) / f in
        let l = ceiling g f F in
        let K : k ≤ 1076 = top k g f l.1 (subst (Within 1075 1) y.is w) in
        subst (λ (z : Float). CloseWhole true A D (floor_of z)) (sym y.is)
        (record {
          k = k;
          whole = refl;
          bound = K;
          close = below A D b d g f t r (o tt) F k K l.0 l.1;
        })
      where
        top : (q g f : ℕ) → q * f < g + f → g * 1 ≤ 1075 * f → q ≤ 1076
        top q g f h k =
            let l : q < 1077 = lt_of_mul-lt-mul_right f (omega arith) in
            omega arith

-- ---- of an x from −745 to 709
turned : (s : Bool) (m : ℕ) (e : ℤ) → m * up e ≤ 745 * down e →
    CloseWhole s (m * up e * 3248660424278399) (down e * 2251799813685248)
    (floor_of (add binary64 (round binary64 s (m * up e * 3248660424278399) (down e * 2251799813685248)) (f64 0x3FE0000000000000)))
turned s m e h =
    let a = m * up e * 3248660424278399 in
    let c = down e * 2251799813685248 in
    let C : 0 < c = mul-pos (down_pos e) (lit< tt) in
    let w = round_within binary64 s a c 1075 1 C (lit< tt) (held_whole binary64 1075 (lit≤ tt))
    (scaled (m * up e) (down e) 3248660424278399 1075 2251799813685248 745 h (lit≤ tt)) in
    let t = finite_of s (round binary64 s a c) 1075 1 (round_signed binary64 s a c) w in
    go s a c t.m t.e (rounds binary64 s a c t.m t.e C t.is) (subst (Within 1075 1) t.is w) t.is
  where
    go : (s : Bool) (a c m : ℕ) (e : ℤ) → Rounds binary64 a c (m * up e) (down e) → m * up e * 1 ≤ 1075 * down e →
        round binary64 s a c ≡ fin s m e →
        CloseWhole s a c (floor_of (add binary64 (round binary64 s a c) (f64 0x3FE0000000000000)))
    go false a c m e r h is =
        subst (λ (z : Float). CloseWhole false a c (floor_of (add binary64 z (f64 0x3FE0000000000000)))) (sym is) (half_above a c m e r h)
    go true a c m e r h is =
        subst (λ (z : Float). CloseWhole true a c (floor_of (add binary64 z (f64 0x3FE0000000000000)))) (sym is) (half_below a c m e r h)

pub close_whole : (s : Bool) (m : ℕ) (e : ℤ) → m * up e ≤ 745 * down e →
    CloseWhole s (m * up e * 3248660424278399) (down e * 2251799813685248) (floor_of (turns_of (fin s m e)))
unfolding mul of_bits
close_whole false m e h = turned false m e h
close_whole true m e h = turned true m e h
