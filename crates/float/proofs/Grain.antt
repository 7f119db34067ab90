-- Whole multiples of 2 ^ -g stay such through sums and products, and so a dot product of scaled rows is the scaled dot product. Only root's
-- RootSame stands on it yet: document 02, #114, will. Assumes nothing.
use mathlib.Core.Path.{◌≡◌, refl, sym, ap, ◌∙◌, subst}
use mathlib.Core.List.{List, [], ◌∷◌}
use Prim.Native.Nat.{ℕ, suc, ◌+◌, ◌-◌, ◌*◌, ◌/◌, ◌^◌, ◌≤◌, ◌<◌}
use Prim.{yes, no}
use native.Mathlib.Decide.{dec_le}
use native.Mathlib.Nat.{le_trans, le_of_eq, lt_of_lt_of_le, lt_of_not-le, not-le_of_lt, mul_comm, mul_assoc, mul_left_comm, mul_right_comm, mul-le-mul_right, mul-lt-mul_of_pos_right, mul-pos, mul-div_cancel, eq_of_mul-eq-mul_right, le_of_mul-le-mul_right, add-mul, mul-mul-mul_comm}
use native.Mathlib.Omega.{arith}
use mathlib.Core.Bool.{Bool, true, false, ◌&&◌, beq, cond, true≢false}
use borrow.Author.Tests.{le-ltb}
use lib.Dec.{T, ltb, lit<}
use lib.ListN.{length}
use lib.Pow.{pow-add, pow_pos, pow_mono}
use lib.Ieee.{Float, nan, inf, fin, Format, binary64, prec, emax, low, up, down, unlike, size, odd, units, round, sum, add, mul}
use lib.Ieee.Digits.{size-lt}
use lib.Ieee.Fits.{round_is, reach, down_pos}
use lib.Ieee.Exact.{HasValue, round_exact, units_val}
use lib.Ieee.Order.{drop, kept}
use lib.Ieee.Scale.{finite}
use Rattle.float.proofs.Bound.{Within, held_whole}
use Rattle.float.specs.Arithmetic.{dot_from}
use Rattle.float.proofs.Ranges.{grown, All, within_finite, mul_within, add_within}
use Rattle.float.proofs.Units.{squares_from}
use Rattle.float.proofs.Scaling.{mul_scale_both, Multiple, Grained, Coarse, scale, shifted, scale_val, mul_scale, add_scale, multiple_mul, multiple_add, multiple_sub, multiple_wider}

-- from a value to its grain
of_exact : (v : Float) (s : Bool) (a c g : ℕ) → 0 < c → HasValue v s a c → Multiple a c g → Grained g v
of_exact nan s a c g C h x = h
of_exact (inf t) s a c g C h x = h
of_exact (fin t m e) s a c g C h x = record {
  times = x.times;
  is = eq_of_mul-eq-mul_right c C (m * up e * 2 ^ g) (x.times * down e)
      (mul_right_comm (m * up e) (2 ^ g) c ∙ ap (λ (z : ℕ). z * 2 ^ g) h.1 ∙ mul_right_comm a (down e) (2 ^ g) ∙ ap (λ (z : ℕ). z * down e) x.is ∙ mul_right_comm x.times c (down e));
}

split : (l g : ℕ) → g ≤ l → 2 ^ l ≡ 2 ^ g * 2 ^ (l - g)
split l g h = ap (λ (z : ℕ). 2 ^ z) (the l (g + (l - g)) (omega arith)) ∙ pow-add 2 g (l - g)
  where
    the : (a b : ℕ) → a ≡ b → a ≡ b
    the a b e = e

-- a value of K · 2 ^ d units, where d is past the grain
of_units : (v : Float) (s : Bool) (K d l g : ℕ) → g ≤ l → l - g ≤ d → HasValue v s (K * 2 ^ d) (2 ^ l) → Grained g v
of_units nan s K d l g h k v = v
of_units (inf t) s K d l g h k v = v
of_units (fin t m e) s K d l g h k v = record {
  times = K * 2 ^ (d - (l - g));
  is = eq_of_mul-eq-mul_right (2 ^ (l - g)) (pow_pos (l - g)) (m * up e * 2 ^ g) (K * 2 ^ (d - (l - g)) * down e)
      (mul_assoc (m * up e) (2 ^ g) (2 ^ (l - g))
      ∙ ap (λ (z : ℕ). m * up e * z) (sym (split l g h))
      ∙ v.1
      ∙ ap (λ (z : ℕ). K * z * down e) (ap (λ (z : ℕ). 2 ^ z) (the d (d - (l - g) + (l - g)) (omega arith)) ∙ pow-add 2 (d - (l - g)) (l - g))
      ∙ ap (λ (z : ℕ). z * down e) (sym (mul_assoc K (2 ^ (d - (l - g))) (2 ^ (l - g))))
      ∙ mul_right_comm (K * 2 ^ (d - (l - g))) (2 ^ (l - g)) (down e));
}
  where
    the : (a b : ℕ) → a ≡ b → a ≡ b
    the a b e = e

finite_units : (f : Format) (s : Bool) (q k : ℕ) → T (finite (units f s q k)) → HasValue (units f s q k) s (q * 2 ^ k) (2 ^ low f)
unfolding units
finite_units f s q k t = elim (dec_le (2 ^ (low f + suc (emax f))) (q * 2 ^ k)) [
  | no n ↦ units_val f s q k (lt_of_not-le n)
  | yes h ↦ absurd (never (ltb (q * 2 ^ k) (2 ^ (low f + suc (emax f)))) (le-ltb (q * 2 ^ k) (2 ^ (low f + suc (emax f))) h) t)
]
  where
    never : (b : Bool) → b ≡ false → T (finite (cond b (odd (suc (prec f)) s q k (low f)) (inf s))) → ⊥
    never true e t = true≢false e
    never false e t = t

pub round_grained : (f : Format) (s : Bool) (a c g : ℕ) → 0 < c → g ≤ low f → Multiple a c g → T (finite (round f s a c)) → Grained g (round f s a c)
round_grained f s a c g C l x t =
    let w = x.times in
    let L = low f - g in
    let n : a * 2 ^ low f ≡ w * 2 ^ L * c = ap (λ (z : ℕ). a * z) (split (low f) g l) ∙ sym (mul_assoc a (2 ^ g) (2 ^ L)) ∙ ap (λ (z : ℕ). z * 2 ^ L) x.is ∙ mul_right_comm w c (2 ^ L) in
    elim (dec_le (2 ^ prec f) w) [
      | no h ↦
          let small : w < 2 ^ prec f = lt_of_not-le h in
          of_exact (round f s a c) s a c g C
          (round_exact f s a c w L C small
          (lt_of_lt_of_le (mul-lt-mul_of_pos_right small (pow_pos L)) (le_trans (le_of_eq (sym (pow-add 2 (prec f) L))) (pow_mono (room (prec f) (low f) g (suc (emax f)) (reach f)))))
          n) x
      | yes h ↦
          let q : a * 2 ^ low f / c ≡ w * 2 ^ L = ap (λ (z : ℕ). z / c) n ∙ mul-div_cancel (w * 2 ^ L) C in
          let big : 2 ^ (prec f + L) ≤ a * 2 ^ low f / c = le_trans (le_of_eq (pow-add 2 (prec f) L)) (le_trans (mul-le-mul_right (2 ^ L) h) (le_of_eq (sym q))) in
          let sz : prec f + L < size (a * 2 ^ low f / c) = lt_of_not-le (λ (i : size (a * 2 ^ low f / c) ≤ prec f + L). not-le_of_lt (lt_of_lt_of_le (size-lt (a * 2 ^ low f / c)) (pow_mono i)) big) in
          let K = kept (prec f) (a * 2 ^ low f) c in
          let d = drop (prec f) (a * 2 ^ low f) c in
          subst (Grained g) (sym (round_is f s a c))
          (of_units (units f s K d) s K d (low f) g l (past (size (a * 2 ^ low f / c)) (prec f) L sz) (finite_units f s K d (subst (λ (z : Float). T (finite z)) (round_is f s a c) t)))
    ]
  where
    room : (p l g m : ℕ) → p ≤ m → p + (l - g) ≤ l + m
    room p l g m h = omega arith

    past : (z p L : ℕ) → p + L < z → L ≤ z - p
    past z p L h = omega arith

pub mul_grained : (f : Format) (g h : ℕ) (x y : Float) → g + h ≤ low f → Grained g x → Grained h y → T (finite (mul f x y)) → Grained (g + h) (mul f x y)
unfolding mul
mul_grained f g h nan y l p q t = absurd p
mul_grained f g h (inf s) y l p q t = absurd p
mul_grained f g h (fin s m e) nan l p q t = absurd q
mul_grained f g h (fin s m e) (inf u) l p q t = absurd q
mul_grained f g h (fin s m e) (fin u n d) l p q t =
    round_grained f (unlike s u) (m * up e * (n * up d)) (down e * down d) (g + h) (mul-pos (down_pos e) (down_pos d)) l (multiple_mul (m * up e) (down e) (n * up d) (down d) g h p q) t

sum_grained : (f : Format) (s t : Bool) (a b c g : ℕ) → 0 < c → g ≤ low f → Multiple a c g → Multiple b c g → T (finite (sum f s a t b c)) → Grained g (sum f s a t b c)
unfolding sum
sum_grained f s t a b c g C l x y = go (beq s t) (ltb a b)
  where
    go : (u w : Bool) → T (finite (cond u (round f s (a + b) c) (cond w (round f t (b - a) c) (round f (s && ltb b a) (a - b) c)))) → Grained g (cond u (round f s (a + b) c) (cond w (round f t (b - a) c) (round f (s && ltb b a) (a - b) c)))
    go true w h = round_grained f s (a + b) c g C l (multiple_add a b c g x y) h
    go false true h = round_grained f t (b - a) c g C l (multiple_sub b a c g y x) h
    go false false h = round_grained f (s && ltb b a) (a - b) c g C l (multiple_sub a b c g x y) h

pub add_grained : (f : Format) (g : ℕ) (x y : Float) → g ≤ low f → Grained g x → Grained g y → T (finite (add f x y)) → Grained g (add f x y)
unfolding add
add_grained f g nan y l p q t = absurd p
add_grained f g (inf s) y l p q t = absurd p
add_grained f g (fin s m e) nan l p q t = absurd q
add_grained f g (fin s m e) (inf u) l p q t = absurd q
add_grained f g (fin s m e) (fin u n d) l p q t =
    sum_grained f s u (m * up e * down d) (n * up d * down e) (down e * down d) g (mul-pos (down_pos e) (down_pos d)) l
    (multiple_wider (m * up e) (down e) (down d) g p)
    (subst (λ (z : ℕ). Multiple (n * up d * down e) z g) (mul_comm (down d) (down e)) (multiple_wider (n * up d) (down d) (down e) g q)) t

pub scale_within : (P Q j : ℕ) (x : Float) → Within P Q x → Within (P * 2 ^ j) Q (scale j x)
scale_within P Q j nan h = h
scale_within P Q j (inf s) h = h
scale_within P Q j (fin s m e) h =
    let e' = shifted m e j in
    le_of_mul-le-mul_right (le_trans (le_of_eq (left (m * up e') (down e) (m * up e) (2 ^ j) (down e') Q (scale_val m e j))) (le_trans (mul-le-mul_right (2 ^ j * down e') h) (le_of_eq (right P (down e) (2 ^ j) (down e'))))) (down_pos e)
  where
    left : (a' c a k c' Q : ℕ) → a' * c ≡ a * k * c' → a' * Q * c ≡ a * Q * (k * c')
    left a' c a k c' Q h = mul_right_comm a' Q c ∙ ap (λ (z : ℕ). z * Q) h ∙ simp (mul_assoc, mul_comm, mul_left_comm)

    right : (P c k c' : ℕ) → P * c * (k * c') ≡ P * k * c' * c
    right P c k c' = simp (mul_assoc, mul_comm, mul_left_comm)

-- ---- a dot product
abbrev pub scaled : ℕ → List Float → List Float
scaled j [] = []
scaled j (x ∷ xs) = scale j x ∷ scaled j xs

pub dot_scale : (g h A B S j : ℕ) (s : Float) (a b : List Float) → Coarse binary64 (g + h)
    → S * 2 ^ j + A * 2 ^ j * B * length a ≤ 9007199254740992 → S + A * B * length a ≤ 9007199254740992
    → Within S 1 s → Grained (g + h) s → All (Within A 1) a → All (Grained g) a → All (Within B 1) b → All (Grained h) b
    → dot_from (scale j s) (scaled j a) b ≡ scale j (dot_from s a b)
dot_scale g h A B S j s [] b l m m' ws gs wa ga wb gb = refl
dot_scale g h A B S j s (x ∷ a) [] l m m' ws gs wa ga wb gb = refl
dot_scale g h A B S j s (x ∷ a) (y ∷ b) l m m' ws gs wa ga wb gb =
    let k = 2 ^ j in
    let n = length a in
    let r₁ : S * k + A * k * B * suc n ≡ S * k + A * k * B + A * k * B * n = grown (S * k) (A * k * B) n in
    let r₂ : S + A * B * suc n ≡ S + A * B + A * B * n = grown S (A * B) n in
    let r₃ : (S + A * B) * k ≡ S * k + A * k * B = add-mul S (A * B) k ∙ ap (λ (z : ℕ). S * k + z) (mul_right_comm A B k) in
    let lo : g + h ≤ 1074 = omega arith in
    let p = mul binary64 x y in
    let wp : Within (A * B) 1 p = mul_within binary64 A 1 B 1 x y (lit< tt) (lit< tt) (held_whole binary64 (A * B) (omega arith)) wa.0 wb.0 in
    let gp : Grained (g + h) p = mul_grained binary64 g h x y lo ga.0 gb.0 (within_finite (A * B) 1 p wp) in
    let wq : Within (S + A * B) 1 (add binary64 s p) = add_within binary64 S (A * B) 1 s p (lit< tt) (held_whole binary64 (S + A * B) (omega arith)) ws wp in
    let gq : Grained (g + h) (add binary64 s p) = add_grained binary64 (g + h) s p lo gs gp (within_finite (S + A * B) 1 (add binary64 s p) wq) in
    let wp' : Within (A * k * B) 1 (mul binary64 (scale j x) y) = mul_within binary64 (A * k) 1 B 1 (scale j x) y (lit< tt) (lit< tt) (held_whole binary64 (A * k * B) (omega arith)) (scale_within A 1 j x wa.0) wb.0 in
    let e₁ : mul binary64 (scale j x) y ≡ scale j p = mul_scale binary64 g h j x y l ga.0 gb.0 (within_finite (A * k * B) 1 (mul binary64 (scale j x) y) wp') in
    let wq' : Within (S * k + A * k * B) 1 (add binary64 (scale j s) (scale j p)) = add_within binary64 (S * k) (A * k * B) 1 (scale j s) (scale j p) (lit< tt) (held_whole binary64 (S * k + A * k * B) (omega arith)) (scale_within S 1 j s ws) (subst (Within (A * k * B) 1) e₁ wp') in
    let e₂ : add binary64 (scale j s) (scale j p) ≡ scale j (add binary64 s p) = add_scale binary64 (g + h) j s p l gs gp (within_finite (S * k + A * k * B) 1 (add binary64 (scale j s) (scale j p)) wq') in
    ap (λ (z : Float). dot_from (add binary64 (scale j s) z) (scaled j a) b) e₁
    ∙ ap (λ (z : Float). dot_from z (scaled j a) b) e₂
    ∙ dot_scale g h A B (S + A * B) j (add binary64 s p) a b l (omega arith) (omega arith) wq gq wa.1 ga.1 wb.1 gb.1

-- ---- a sum of squares
pub squares_scale : (g A S j : ℕ) (s : Float) (xs : List Float) → Coarse binary64 (g + g)
    → S * 2 ^ (j + j) + A * 2 ^ j * (A * 2 ^ j) * length xs ≤ 9007199254740992 → S + A * A * length xs ≤ 9007199254740992
    → Within S 1 s → Grained (g + g) s → All (Within A 1) xs → All (Grained g) xs
    → squares_from (scale (j + j) s) (scaled j xs) ≡ scale (j + j) (squares_from s xs)
squares_scale g A S j s [] l m m' ws gs wa ga = refl
squares_scale g A S j s (x ∷ a) l m m' ws gs wa ga =
    let k = 2 ^ j in
    let kk = 2 ^ (j + j) in
    let n = length a in
    let Ak = A * k * (A * k) in
    let r₁ : S * kk + Ak * suc n ≡ S * kk + Ak + Ak * n = grown (S * kk) Ak n in
    let r₂ : S + A * A * suc n ≡ S + A * A + A * A * n = grown S (A * A) n in
    let r₃ : (S + A * A) * kk ≡ S * kk + Ak = add-mul S (A * A) kk ∙ ap (λ (z : ℕ). S * kk + z) (ap (λ (z : ℕ). A * A * z) (pow-add 2 j j) ∙ mul-mul-mul_comm A A k k) in
    let lo : g + g ≤ 1074 = omega arith in
    let p = mul binary64 x x in
    let wp : Within (A * A) 1 p = mul_within binary64 A 1 A 1 x x (lit< tt) (lit< tt) (held_whole binary64 (A * A) (omega arith)) wa.0 wa.0 in
    let gp : Grained (g + g) p = mul_grained binary64 g g x x lo ga.0 ga.0 (within_finite (A * A) 1 p wp) in
    let wq : Within (S + A * A) 1 (add binary64 s p) = add_within binary64 S (A * A) 1 s p (lit< tt) (held_whole binary64 (S + A * A) (omega arith)) ws wp in
    let gq : Grained (g + g) (add binary64 s p) = add_grained binary64 (g + g) s p lo gs gp (within_finite (S + A * A) 1 (add binary64 s p) wq) in
    let wx' = scale_within A 1 j x wa.0 in
    let wp' : Within Ak 1 (mul binary64 (scale j x) (scale j x)) = mul_within binary64 (A * k) 1 (A * k) 1 (scale j x) (scale j x) (lit< tt) (lit< tt) (held_whole binary64 Ak (omega arith)) wx' wx' in
    let e₁ : mul binary64 (scale j x) (scale j x) ≡ scale (j + j) p = mul_scale_both binary64 g g j j x x l ga.0 ga.0 (within_finite Ak 1 (mul binary64 (scale j x) (scale j x)) wp') in
    let wq' : Within (S * kk + Ak) 1 (add binary64 (scale (j + j) s) (scale (j + j) p)) = add_within binary64 (S * kk) Ak 1 (scale (j + j) s) (scale (j + j) p) (lit< tt) (held_whole binary64 (S * kk + Ak) (omega arith)) (scale_within S 1 (j + j) s ws) (subst (Within Ak 1) e₁ wp') in
    let e₂ : add binary64 (scale (j + j) s) (scale (j + j) p) ≡ scale (j + j) (add binary64 s p) = add_scale binary64 (g + g) (j + j) s p l gs gp (within_finite (S * kk + Ak) 1 (add binary64 (scale (j + j) s) (scale (j + j) p)) wq') in
    ap (λ (z : Float). squares_from (add binary64 (scale (j + j) s) z) (scaled j a)) e₁
    ∙ ap (λ (z : Float). squares_from z (scaled j a)) e₂
    ∙ squares_scale g A (S + A * A) j (add binary64 s p) a l (omega arith) (omega arith) wq gq wa.1 ga.1
