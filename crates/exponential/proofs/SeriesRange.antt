-- The series of the exponential, where what is left is within 3/8: it is from 133/256 to 379/256, and above 1 where what is left is 1/8 at
-- least. Assumes nothing.
use mathlib.Core.Path.{◌≡◌, refl, sym, ap, ◌∙◌}
use Prim.Native.Nat.{ℕ, zero, suc, ◌+◌, ◌-◌, ◌*◌, ◌≤◌, ◌<◌}
use mathlib.Core.Logic.{inl, inr}
use native.Mathlib.Nat.{suc-mul, add_comm, zero-mul, mul-le-mul_left, mul-one, one-mul, mul-pos, mul_comm}
use native.Mathlib.Nat.{mul_assoc, mul_left_comm, mul-le-mul_right, mul-le-mul, mul-mul-mul_comm, add-mul, le_trans, le_of_eq}
use native.Mathlib.Omega.{arith}
use mathlib.Core.Bool.{true, false, true≢false}
use lib.Dec.{lit<, lit≤}
use borrow.Author.Tests.{le-ltb}
use lib.Ieee.{Float, nan, inf, fin, binary64, up, down, round, sum, add, mul, div, of_int}
use lib.Ieee.Fits.{down_pos}
use lib.Ieee.Exact.{HasValue}
use Rattle.float.specs.Arithmetic.{number}
use Rattle.exponential.specs.Exponential.{exp_from}
use Rattle.float.proofs.Order.{lt_or_ge}
use Rattle.float.proofs.Whole.{own}
use Rattle.float.proofs.Bound.{Within, Over, Signed, Held, held_part, within_wider, over_wider, round_signed, round_within, round_over}
use Rattle.float.proofs.Ranges.{mul_within, div_within, Ratio}

-- p is not negative, and from L / Q to U / Q
pub record Between (L U Q : ℕ) (p : Float) : Type 0 where
  pub sign : Signed false p
  pub least : Over L Q p
  pub most : Within U Q p

between : (L U Q a c : ℕ) → 0 < c → 0 < Q → Held binary64 L Q → Held binary64 U Q → L * c ≤ a * Q → a * Q ≤ U * c →
    Between L U Q (round binary64 false a c)
between L U Q a c C D hl hu l h =
    record {
      sign = round_signed binary64 false a c;
      least = round_over binary64 a c L Q C D hl l;
      most = round_within binary64 false a c U Q C D hu h;
    }

-- 1 + z, for |z| ≤ P / Q
one_plus : (P L U Q : ℕ) (z : Float) → 0 < Q → L + P ≡ Q → U ≡ Q + P → 0 < L → Held binary64 L Q → Held binary64 U Q → Within P Q z →
    Between L U Q (add binary64 (number 1) z)
unfolding add sum of_int
one_plus P L U Q nan q l u o hl hu h = absurd h
one_plus P L U Q (inf s) q l u o hl hu h = absurd h
one_plus P L U Q (fin false m e) q l u o hl hu h =
    let d = down e in
    let a = m * up e in
    let n : (1 * d + a * 1) * Q ≡ d * Q + a * Q = simp (add-mul, one-mul, mul-one) in
    let r : U * (1 * d) ≡ d * Q + P * d = rw (u, one-mul) (simp (add-mul, mul_comm)) in
    let k : L * (1 * d) + P * d ≡ d * Q = rw one-mul (sym (add-mul L P d) ∙ ap (λ (z : ℕ). z * d) l ∙ mul_comm Q d) in
    between L U Q (1 * d + a * 1) (1 * d) (omega (arith, down_pos e)) q hl hu (omega (arith, n, k)) (omega (arith, n, r))
one_plus P L U Q (fin true m e) q l u o hl hu h =
    let d = down e in
    let a = m * up e in
    let w : a ≤ d = under a d P L Q (down_pos e) l o h in
    let x : 1 * d - a * 1 ≡ d - a = omega arith in
    let n : (d - a) * Q + a * Q ≡ d * Q = sym (add-mul (d - a) a Q) ∙ ap (λ (z : ℕ). z * Q) (back d a w) in
    let r : U * d ≡ d * Q + P * d = rw u (simp (add-mul, mul_comm)) in
    let k : L * d + P * d ≡ d * Q = sym (add-mul L P d) ∙ ap (λ (z : ℕ). z * d) l ∙ mul_comm Q d in
    rw (le-ltb (1 * d) (a * 1) (omega arith), x, one-mul d)
    (between L U Q (d - a) d (down_pos e) q hl hu (omega (arith, n, k, h)) (omega (arith, n, r)))
  where
    back : (d a : ℕ) → a ≤ d → d - a + a ≡ d
    back d a h = omega arith

    under : (a d P L Q : ℕ) → 0 < d → L + P ≡ Q → 0 < L → a * Q ≤ P * d → a ≤ d
    under a d P L Q p l o h = elim (lt_or_ge d a) [
      | inl k ↦
          let x : suc d * Q ≤ a * Q = mul-le-mul_right Q k in
          let y : suc d * Q ≡ d * Q + Q = suc-mul d Q in
          let z : P * d + L * d ≡ d * Q = sym (add-mul P L d) ∙ ap (λ (v : ℕ). v * d) (add_comm P L ∙ l) ∙ mul_comm Q d in
          absurd (clash (a * Q) (P * d) (L * d) (d * Q) (suc d * Q) Q L P h x y z l o)
      | inr k ↦ k
    ]
      where
        clash : (u v w x y Q L P : ℕ) → u ≤ v → y ≤ u → y ≡ x + Q → v + w ≡ x → L + P ≡ Q → 0 < L → ⊥
        clash u v w x y Q L P a b c e f g = omega arith

-- z over a whole j
over_whole : (P Q R j : ℕ) (z : Float) → 0 < Q → 0 < j → j ≤ 13 → Held binary64 P R → R ≤ Q * j → 0 < R → Within P Q z →
    Within P R (div binary64 z (number j))
over_whole P Q R j z q o t hl r p h = div_within binary64 P R z (number j) p hl
    (ratio z (number j) h (own binary64 j (le_trans t (lit≤ tt))))
  where
    bound : (a c D N : ℕ) → a * Q ≤ P * c → N * 1 ≡ j * D → a * D * R ≤ P * (N * c)
    bound a c D N h e =
        let x : a * D * R ≤ a * D * (Q * j) = mul-le-mul_left (a * D) r in
        let y : a * Q * (D * j) ≤ P * c * (D * j) = mul-le-mul_right (D * j) h in
        let u : a * D * (Q * j) ≡ a * Q * (D * j) = simp (mul_assoc, mul_comm, mul_left_comm) in
        let v : P * c * (D * j) ≡ P * (j * D * c) = simp (mul_assoc, mul_comm, mul_left_comm) in
        let w : P * (j * D * c) ≡ P * (N * c) = ap (λ (w : ℕ). P * (w * c)) (sym e ∙ mul-one N) in
        omega (arith, x, y, u, v, w)

    some : (n u D : ℕ) → 0 < D → n * u * 1 ≡ j * D → 0 < n
    some zero u D d e = absurd (none (j * D) (mul-pos o d) (sym e ∙ mul-one (0 * u) ∙ zero-mul u))
      where
        none : (x : ℕ) → 0 < x → x ≡ 0 → ⊥
        none x p e = omega arith
    some (suc n) u D d e = omega arith

    ratio : (z y : Float) → Within P Q z → HasValue y false j 1 → Ratio P R z y
    ratio nan y h v = h
    ratio (inf s) y h v = h
    ratio (fin s m e) nan h v = v
    ratio (fin s m e) (inf b) h v = v
    ratio (fin s m e) (fin b n d) h v = (some n (up d) (down d) (down_pos d) v.1, bound (m * up e) (down e) (down d) (n * up d) h v.1)

-- ---- r·p, and that over j
product : (r p : Float) → Within 3 8 r → Between 23 41 32 p → Within 123 256 (mul binary64 r p)
product r p h k = mul_within binary64 3 8 41 32 r p (lit< tt) (lit< tt) (held_part binary64 123 8 (lit< tt) (lit≤ tt)) h k.most

quotient : (R j : ℕ) (r p : Float) → 0 < j → j ≤ 13 → 0 < R → R ≤ 256 * j → Held binary64 123 R → Within 3 8 r → Between 23 41 32 p →
    Within 123 R (div binary64 (mul binary64 r p) (number j))
quotient R j r p o t q l v h k = over_whole 123 256 R j (mul binary64 r p) (lit< tt) o t v l q (product r p h k)

start : Between 23 41 32 (number 1)
unfolding of_int
start = record { sign = refl; least = lit≤ tt; most = lit≤ tt }

-- one step, j not below 2
step : (r p : Float) (j : ℕ) → 2 ≤ j → j ≤ 13 → Within 3 8 r → Between 23 41 32 p →
    Between 23 41 32 (add binary64 (number 1) (div binary64 (mul binary64 r p) (number j)))
step r p j l t h k =
    let z = div binary64 (mul binary64 r p) (number j) in
    let w = quotient 512 j r p (omega arith) t (lit< tt) (omega arith) (held_part binary64 123 9 (lit< tt) (lit≤ tt)) h k in
    let b = one_plus 123 389 635 512 z (lit< tt) refl refl (lit< tt)
    (held_part binary64 389 9 (lit< tt) (lit≤ tt)) (held_part binary64 635 9 (lit< tt) (lit≤ tt)) w in
    record {
      sign = b.sign;
      least = over_wider 389 512 23 32 (add binary64 (number 1) z) (lit< tt) (lit≤ tt) b.least;
      most = within_wider 635 512 41 32 (add binary64 (number 1) z) (lit< tt) (lit≤ tt) b.most;
    }

-- the last step
last_quotient : (r p : Float) → Within 3 8 r → Between 23 41 32 p → Within 123 256 (div binary64 (mul binary64 r p) (number 1))
last_quotient r p h k = quotient 256 1 r p (lit< tt) (lit≤ tt) (lit< tt) (lit≤ tt) (held_part binary64 123 8 (lit< tt) (lit≤ tt)) h k

last : (r p : Float) → Within 3 8 r → Between 23 41 32 p →
    Between 133 379 256 (add binary64 (number 1) (div binary64 (mul binary64 r p) (number 1)))
last r p h k =
    one_plus 123 133 379 256 (div binary64 (mul binary64 r p) (number 1)) (lit< tt) refl refl (lit< tt)
    (held_part binary64 133 8 (lit< tt) (lit≤ tt)) (held_part binary64 379 8 (lit< tt) (lit≤ tt)) (last_quotient r p h k)

-- what the last step makes of each such p, the series is
steps : (R : Float → Type 0) (r : Float) → Within 3 8 r →
    ((p : Float) → Between 23 41 32 p → R (add binary64 (number 1) (div binary64 (mul binary64 r p) (number 1)))) →
    (n : ℕ) (p : Float) → n ≤ 12 → Between 23 41 32 p → R (exp_from (suc n) r p)
unfolding exp_from
steps R r h f zero p l k = f p k
steps R r h f (suc n) p l k =
    steps R r h f n (add binary64 (number 1) (div binary64 (mul binary64 r p) (number (suc (suc n))))) (omega arith)
    (step r p (suc (suc n)) (omega arith) (omega arith) h k)

pub series_between : (r : Float) → Within 3 8 r → Between 133 379 256 (exp_from 13 r (number 1))
series_between r h = steps (Between 133 379 256) r h (λ p k. last r p h k) 12 (number 1) (lit≤ tt) start

-- ---- from 1/8 on
product_over : (r p : Float) → Signed false r → Signed false p → Within 3 8 r → Within 41 32 p → Over 1 8 r → Over 23 32 p →
    Signed false (mul binary64 r p) × Over 23 256 (mul binary64 r p)
unfolding mul
product_over nan p g s h w o k = absurd g
product_over (inf t) p g s h w o k = absurd h
product_over (fin true m e) p g s h w o k = absurd (true≢false g)
product_over (fin false m e) nan g s h w o k = absurd s
product_over (fin false m e) (inf t) g s h w o k = absurd w
product_over (fin false m e) (fin true n d) g s h w o k = absurd (true≢false s)
product_over (fin false m e) (fin false n d) g s h w o k =
    let a = m * up e * (n * up d) in
    let c = down e * down d in
    let x : 23 * c ≤ a * 256 =
    le_trans (le_of_eq (mul-mul-mul_comm 1 23 (down e) (down d)))
    (le_trans (mul-le-mul o k) (le_of_eq (mul-mul-mul_comm (m * up e) 8 (n * up d) 32))) in (
      round_signed binary64 false a c,
      round_over binary64 a c 23 256 (mul-pos (down_pos e) (down_pos d)) (lit< tt)
          (held_part binary64 23 8 (lit< tt) (lit≤ tt)) x,
    )

over_one : (z : Float) → Signed false z → Within 123 256 z → Over 23 256 z →
    Signed false (div binary64 z (number 1)) × Over 23 256 (div binary64 z (number 1))
unfolding div of_int
over_one nan g w o = absurd g
over_one (inf t) g w o = absurd w
over_one (fin true m e) g w o = absurd (true≢false g)
over_one (fin false m e) g w o =
    let c = 1 * 1 * down e in (
      round_signed binary64 false (m * up e * 1) c,
      round_over binary64 (m * up e * 1) c 23 256 (omega (arith, down_pos e)) (lit< tt)
          (held_part binary64 23 8 (lit< tt) (lit≤ tt)) (omega arith),
    )

one_over : (z : Float) → Signed false z → Within 123 256 z → Over 23 256 z → Over 279 256 (add binary64 (number 1) z)
unfolding add sum of_int
one_over nan g w o = absurd g
one_over (inf t) g w o = absurd w
one_over (fin true m e) g w o = absurd (true≢false g)
one_over (fin false m e) g w o =
    round_over binary64 (1 * down e + m * up e * 1) (1 * down e) 279 256 (omega (arith, down_pos e)) (lit< tt)
    (held_part binary64 279 8 (lit< tt) (lit≤ tt)) (omega arith)

last_over : (r p : Float) → Within 3 8 r → Signed false r → Over 1 8 r → Between 23 41 32 p →
    Over 279 256 (add binary64 (number 1) (div binary64 (mul binary64 r p) (number 1)))
last_over r p h g o k =
    let z = mul binary64 r p in
    let m = product_over r p g k.sign h k.most o k.least in
    let q = over_one z m.0 (product r p h k) m.1 in
    one_over (div binary64 z (number 1)) q.0 (last_quotient r p h k) q.1

pub series_over : (r : Float) → Within 3 8 r → Signed false r → Over 1 8 r → Over 279 256 (exp_from 13 r (number 1))
series_over r h g o = steps (Over 279 256) r h (λ p k. last_over r p h g o k) 12 (number 1) (lit≤ tt) start
