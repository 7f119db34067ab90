-- Every finite float is a whole multiple of the smallest value, and rounding leaves it as it is; so a sum of two that are not negative is
-- at least each, and a sum of squares at least each square. Assumes nothing.
use mathlib.Core.Path.{◌≡◌, refl, sym, ap, ◌∙◌, subst}
use mathlib.Core.Logic.{◌⊎◌, inl, inr}
use mathlib.Core.List.{List, [], ◌∷◌}
use Prim.Native.Nat.{ℕ, zero, suc, ◌+◌, ◌-◌, ◌*◌, ◌%◌, ◌^◌, ◌≤◌, ◌<◌}
use native.Mathlib.Nat.{le_trans, le_of_eq, lt_of_lt_of_le, lt_of_le_of_lt, not-le_of_lt, mul-one, one-mul, add-mul, zero-mul, mul_comm}
use native.Mathlib.Nat.{mul_assoc, mul_left_comm, mul-le-mul_right, mul-lt-mul_of_pos_right, mul-pos, lt_of_mul-lt-mul_right}
use native.Mathlib.Nat.{eq-zero-or-pos}
use borrow.Author.Tests.{lt-ltb, le-ltb}
use native.Mathlib.Omega.{arith}
use mathlib.Core.Bool.{Bool, true, false, not, ◌&&◌, true≢false}
use lib.IntN.{ℤ, pos, negsuc}
use lib.Dec.{T, ltb, leb, eqb, ltb→lt, leb→le, nleb→lt, lit<}
use lib.ListN.{length}
use lib.Pow.{pow-add, pow_pos, pow-lt}
use lib.Ieee.{Float, nan, inf, fin, Format, binary64, prec, emax, low, up, down, round, sum, add, mul, fits}
use lib.Ieee.Fits.{and_l, and_r, down_pos, add-fits, mul-fits}
use lib.Ieee.Exact.{round_exact}
use lib.Ieee.Positive.{through}
use lib.Ieee.Scale.{finite}
use Rattle.float.specs.Arithmetic.{minus_zero, plus_zero, dot_from}
use Rattle.float.proofs.Bound.{Within, Over, Signed, Held, round_signed, round_over}
use Rattle.float.proofs.Ranges.{All, within_more, mul_within, add_within}
use Rattle.float.proofs.Scaling.{Grained}

-- what `fits` says of the digits and of the exponent
pub record Parts (f : Format) (m : ℕ) (e : ℤ) : Type 0 where
  pub few : m < 2 ^ prec f
  pub fine : down e ≤ 2 ^ low f
  pub small : m * up e < 2 ^ suc (emax f) * down e

pub parts_of : (f : Format) (s : Bool) (m : ℕ) (e : ℤ) → T (fits f (fin s (suc m) e)) → Parts f (suc m) e
unfolding fits
parts_of f s m e h =
    let a = eqb (suc m % 2) 1 in
    let b = ltb (suc m) (2 ^ prec f) in
    let c = leb (down e) (2 ^ low f) in
    let d = ltb (suc m * up e) (2 ^ suc (emax f) * down e) in
    let abc = and_l (a && b && c) d h in
    record {
      few = ltb→lt (suc m) (2 ^ prec f) (and_r a b (and_l (a && b) c abc));
      fine = leb→le (down e) (2 ^ low f) (and_r (a && b) c abc);
      small = ltb→lt (suc m * up e) (2 ^ suc (emax f) * down e) (and_r (a && b && c) d h);
    }

pub reached : (k l : ℕ) → 2 ^ k ≤ 2 ^ l → k ≤ l
reached k l h = elim_not (lt_or (k) l)
  where
    lt_or : (a b : ℕ) → (b < a) ⊎ (a ≤ b)
    lt_or a b = go (leb a b) (leb→le a b) (nleb→lt a b)
      where
        go : (t : Bool) → (T t → a ≤ b) → (T (not t) → b < a) → (b < a) ⊎ (a ≤ b)
        go true p q = inr (p tt)
        go false p q = inl (q tt)

    elim_not : (l < k) ⊎ (k ≤ l) → k ≤ l
    elim_not (inl p) = absurd (not-le_of_lt (pow-lt p) h)
    elim_not (inr p) = p

-- m · 2 ^ e is m · 2 ^ j units of 2 ^ -l
abbrev pub places : ℤ → ℕ → ℕ
places (pos k) l = k + l
places (negsuc k) l = l - suc k

pub in_units : (m : ℕ) (e : ℤ) (l : ℕ) → down e ≤ 2 ^ l → m * up e * 2 ^ l ≡ m * 2 ^ places e l * down e
in_units m (pos k) l h = mul_assoc m (2 ^ k) (2 ^ l) ∙ ap (λ (z : ℕ). m * z) (sym (pow-add 2 k l)) ∙ sym (mul-one (m * 2 ^ (k + l)))
in_units m (negsuc k) l h =
    let g : suc k ≤ l = reached (suc k) l h in
    ap (λ (z : ℕ). z * 2 ^ l) (mul-one m) ∙ ap (λ (z : ℕ). m * z) (ap (λ (z : ℕ). 2 ^ z) (back l (suc k) g) ∙ pow-add 2 (l - suc k) (suc k)) ∙ sym (mul_assoc m (2 ^ (l - suc k)) (2 ^ suc k))
  where
    back : (l k : ℕ) → k ≤ l → l ≡ l - k + k
    back l k h = omega arith

pub grained_of_fits : (f : Format) (x : Float) → T (fits f x) → T (finite x) → Grained (low f) x
grained_of_fits f nan h t = absurd t
grained_of_fits f (inf s) h t = absurd t
grained_of_fits f (fin s zero e) h t = record { times = 0; is = ap (λ (z : ℕ). z * 2 ^ low f) (zero-mul (up e)) ∙ zero-mul (2 ^ low f) ∙ sym (zero-mul (down e)) }
grained_of_fits f (fin s (suc m) e) h t = record { times = suc m * 2 ^ places e (low f); is = in_units (suc m) e (low f) (parts_of f s m e h).fine }

-- a float's own fraction rounds to itself
pub held_own : (f : Format) (s : Bool) (m : ℕ) (e : ℤ) → T (fits f (fin s m e)) → Held f (m * up e) (down e)
held_own f s zero e h = round_exact f false (0 * up e) (down e) 0 0 (down_pos e) (pow_pos (prec f)) (pow_pos (low f + suc (emax f))) (ap (λ (z : ℕ). z * 2 ^ low f) (zero-mul (up e)) ∙ zero-mul (2 ^ low f) ∙ sym (zero-mul (down e)))
held_own f s (suc m) e h =
    let p = parts_of f s m e h in
    let u = in_units (suc m) e (low f) p.fine in
    round_exact f false (suc m * up e) (down e) (suc m) (places e (low f)) (down_pos e) p.few
    (lt_of_mul-lt-mul_right (down e) (lt_of_le_of_lt (le_of_eq (sym u)) (lt_of_lt_of_le (mul-lt-mul_of_pos_right p.small (pow_pos (low f))) (le_of_eq (around (2 ^ suc (emax f)) (down e) (2 ^ low f) ∙ ap (λ (z : ℕ). z * down e) (sym (pow-add 2 (low f) (suc (emax f)))))))))
    u
  where
    around : (a d l : ℕ) → a * d * l ≡ l * a * d
    around a d l = simp (mul_assoc, mul_comm, mul_left_comm)

-- ---- a sum of two that are not negative is at least each
pub add_over_right : (f : Format) (m : ℕ) (e : ℤ) (n : ℕ) (d : ℤ) → T (fits f (fin false n d)) → Over (n * up d) (down d) (add f (fin false m e) (fin false n d))
unfolding add sum
add_over_right f m e n d h =
    round_over f (m * up e * down d + n * up d * down e) (down e * down d) (n * up d) (down d) (mul-pos (down_pos e) (down_pos d)) (down_pos d) (held_own f false n d h)
    (grow (m * up e) (down e) (n * up d) (down d))
  where
    grow : (a c b d : ℕ) → b * (c * d) ≤ (a * d + b * c) * d
    grow a c b d = le_trans (le_of_eq (sym (mul_assoc b c d))) (mul-le-mul_right d (more (a * d) (b * c)))
      where
        more : (x y : ℕ) → y ≤ x + y
        more x y = omega arith

pub add_over_left : (f : Format) (m : ℕ) (e : ℤ) (n : ℕ) (d : ℤ) → T (fits f (fin false m e)) → Over (m * up e) (down e) (add f (fin false m e) (fin false n d))
unfolding add sum
add_over_left f m e n d h =
    round_over f (m * up e * down d + n * up d * down e) (down e * down d) (m * up e) (down e) (mul-pos (down_pos e) (down_pos d)) (down_pos e) (held_own f false m e h)
    (grow (m * up e) (down e) (n * up d) (down d))
  where
    grow : (a c b d : ℕ) → a * (c * d) ≤ (a * d + b * c) * c
    grow a c b d = le_trans (le_of_eq (around a c d)) (mul-le-mul_right c (less (a * d) (b * c)))
      where
        less : (x y : ℕ) → x ≤ x + y
        less x y = omega arith

        around : (a c d : ℕ) → a * (c * d) ≡ a * d * c
        around a c d = simp (mul_assoc, mul_comm, mul_left_comm)

-- P / Q ≤ v ≤ w
pub over_trans : (P Q m : ℕ) (e : ℤ) (w : Float) → P * down e ≤ m * up e * Q → Over (m * up e) (down e) w → Over P Q w
over_trans P Q m e nan h k = k
over_trans P Q m e (inf s) h k = tt
over_trans P Q m e (fin s n d) h k = through P (m * up e) (n * up d) Q (down e) (down d) (down_pos e) h k

-- ---- a sum of squares is at least each square, and what it started at
-- not negative, finite, held by the format
abbrev pub Good : Float → Type 0
Good nan = ⊥
Good (inf s) = ⊥
Good (fin true m e) = ⊥
Good (fin false m e) = T (fits binary64 (fin false m e))

good_of : (v : Float) (P Q : ℕ) → Signed false v → Within P Q v → T (fits binary64 v) → Good v
good_of nan P Q s w h = s
good_of (inf t) P Q s w h = w
good_of (fin true m e) P Q s w h = true≢false s
good_of (fin false m e) P Q s w h = h

-- v ≤ w, of two that are not negative
abbrev pub AtMost : Float → Float → Type 0
AtMost nan w = ⊥
AtMost (inf s) w = ⊥
AtMost (fin s m e) w = Over (m * up e) (down e) w

square_signed : (x : Float) (P Q : ℕ) → Within P Q x → Signed false (mul binary64 x x)
unfolding mul
square_signed nan P Q w = w
square_signed (inf s) P Q w = absurd w
square_signed (fin true m e) P Q w = round_signed binary64 false (m * up e * (m * up e)) (down e * down e)
square_signed (fin false m e) P Q w = round_signed binary64 false (m * up e * (m * up e)) (down e * down e)

sum_signed : (x y : Float) → Good x → Good y → Signed false (add binary64 x y)
unfolding add sum
sum_signed nan y p q = absurd p
sum_signed (inf s) y p q = absurd p
sum_signed (fin true m e) y p q = absurd p
sum_signed (fin false m e) nan p q = absurd q
sum_signed (fin false m e) (inf s) p q = absurd q
sum_signed (fin false m e) (fin true n d) p q = absurd q
sum_signed (fin false m e) (fin false n d) p q = round_signed binary64 false (m * up e * down d + n * up d * down e) (down e * down d)

more_left : (x y : Float) → Good x → Good y → AtMost x (add binary64 x y)
more_left nan y p q = p
more_left (inf s) y p q = p
more_left (fin true m e) y p q = absurd p
more_left (fin false m e) nan p q = absurd q
more_left (fin false m e) (inf s) p q = absurd q
more_left (fin false m e) (fin true n d) p q = absurd q
more_left (fin false m e) (fin false n d) p q = add_over_left binary64 m e n d p

more_right : (x y : Float) → Good x → Good y → AtMost y (add binary64 x y)
more_right nan y p q = absurd p
more_right (inf s) y p q = absurd p
more_right (fin true m e) y p q = absurd p
more_right (fin false m e) nan p q = q
more_right (fin false m e) (inf s) p q = q
more_right (fin false m e) (fin true n d) p q = absurd q
more_right (fin false m e) (fin false n d) p q = add_over_right binary64 m e n d q

at_most_trans : (x y z : Float) → Good y → AtMost x y → AtMost y z → AtMost x z
at_most_trans nan y z g h k = h
at_most_trans (inf s) y z g h k = h
at_most_trans (fin s m e) nan z g h k = absurd g
at_most_trans (fin s m e) (inf t) z g h k = absurd g
at_most_trans (fin s m e) (fin true n d) z g h k = absurd g
at_most_trans (fin s m e) (fin false n d) z g h k = over_trans (m * up e) (down e) n d z h k

-- a sum of squares from s
abbrev pub squares_from : Float → List Float → Float
squares_from s xs = dot_from s xs xs

pub record Summed (s : Float) (xs : List Float) (B : ℕ) (q : Float) : Type 0 where
  pub good : Good q
  pub most : Within B 1 q
  pub start : AtMost s q
  pub each : All (λ (x : Float). AtMost (mul binary64 x x) q) xs

self : (x : Float) → Good x → AtMost x x
self nan g = g
self (inf s) g = g
self (fin true m e) g = absurd g
self (fin false m e) g = le_of_eq refl

-- a sum that starts at -0, as Rust's does, is the one that starts at +0
start_at_zero : (y : Float) → Good y → add binary64 (fin true 0 (pos 0)) y ≡ add binary64 (fin false 0 (pos 0)) y
unfolding add sum
start_at_zero nan g = absurd g
start_at_zero (inf s) g = absurd g
start_at_zero (fin true n d) g = absurd g
start_at_zero (fin false n d) g =
    let a = 0 * down d in
    let b = n * up d * 1 in
    let z : a ≡ 0 = zero-mul (down d) in
    elim (eq-zero-or-pos b) [
      | inl e ↦
          let l : b ≤ a = omega arith in
          let l' : a ≤ b = omega arith in
          rw (le-ltb a b l, le-ltb b a l') (ap (λ (w : ℕ). round binary64 false w (1 * down d)) (same (a - b) (a + b) (omega arith)))
      | inr p ↦
          let l : a < b = omega arith in
          rw (lt-ltb a b l) (ap (λ (w : ℕ). round binary64 false w (1 * down d)) (same (b - a) (a + b) (omega arith)))
    ]
  where
    same : (a b : ℕ) → a ≡ b → a ≡ b
    same a b e = e

-- elements within ±A, and a start within S-as-A², where the format holds A² up to N times
module _ (A N : ℕ) (held : (n : ℕ) → n ≤ N → Held binary64 (n * (A * A)) 1) where
  square_good : (x : Float) → 1 ≤ N → Within A 1 x → Within (A * A) 1 (mul binary64 x x) × Good (mul binary64 x x)
  square_good x l h =
      let one : Held binary64 (A * A) 1 = subst (λ (z : ℕ). Held binary64 z 1) (one-mul (A * A)) (held 1 l) in
      let w : Within (A * A) 1 (mul binary64 x x) = mul_within binary64 A 1 A 1 x x (lit< tt) (lit< tt) one h h in
      (w, good_of (mul binary64 x x) (A * A) 1 (square_signed x A 1 h) w (mul-fits binary64 x x))

  squares_from_law : (S : ℕ) (s : Float) (xs : List Float) → S + length xs ≤ N → Good s → Within (S * (A * A)) 1 s → All (Within A 1) xs
      → Summed s xs ((S + length xs) * (A * A)) (squares_from s xs)
  squares_from_law S s [] l g w h =
      record {
        good = g;
        most = within_more (S * (A * A)) ((S + 0) * (A * A)) 1 s (mul-le-mul_right (A * A) (here S)) w;
        start = self s g;
        each = tt;
      }
    where
      here : (S : ℕ) → S ≤ S + 0
      here S = omega arith
  squares_from_law S s (x ∷ xs) l g w h =
      let C = A * A in
      let y = mul binary64 x x in
      let z = add binary64 s y in
      let q = square_good x (omega arith) h.0 in
      let e : S * C + C ≡ (S + 1) * C = sym (add-mul S 1 C ∙ ap (λ (k : ℕ). S * C + k) (one-mul C)) in
      let wz : Within (S * C + C) 1 z =
      add_within binary64 (S * C) C 1 s y (lit< tt) (subst (λ (k : ℕ). Held binary64 k 1) (sym e) (held (S + 1) (omega arith))) w q.0 in
      let gz : Good z = good_of z (S * C + C) 1 (sum_signed s y g q.1) wz (add-fits binary64 s y) in
      let r = squares_from_law (S + 1) z xs (omega arith) gz (subst (λ (k : ℕ). Within k 1 z) e wz) h.1 in
      let same : S + 1 + length xs ≡ S + suc (length xs) = omega arith in
      record {
        good = r.good;
        most = subst (λ (k : ℕ). Within (k * C) 1 (squares_from z xs)) same r.most;
        start = at_most_trans s z (squares_from z xs) gz (more_left s y g q.1) r.start;
        each = (at_most_trans y z (squares_from z xs) gz (more_right s y g q.1) r.start, r.each);
      }

  pub squares_each : (xs : List Float) → length xs ≤ N → All (Within A 1) xs
      → Summed plus_zero xs ((0 + length xs) * (A * A)) (squares_from plus_zero xs)
  unfolding fits
  squares_each xs l h = squares_from_law 0 plus_zero xs (omega arith) tt (le_of_eq (sym (ap (λ (z : ℕ). z * 1) (zero-mul (A * A))))) h

  -- Rust's sum of squares starts at −0, and is the one that starts at +0
  pub squares_start : (x : Float) (xs : List Float) → 1 ≤ N → Within A 1 x → squares_from minus_zero (x ∷ xs) ≡ squares_from plus_zero (x ∷ xs)
  squares_start x xs l h = ap (λ (z : Float). dot_from z xs xs) (start_at_zero (mul binary64 x x) (square_good x l h).1)
