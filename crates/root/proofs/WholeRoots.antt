-- Whole square roots: one place more of a root, the nearest whole number once no place is open, the whole part that the definition takes,
-- and the nearest whole number, by squares that lie on both sides of the number. Assumes nothing.
use Rattle.std.proofs.Common.{◌≡◌, ℕ, zero, suc, ◌+◌, ◌-◌, ◌*◌, ◌/◌, ◌%◌, ◌^◌, ◌<◌, ◌≤◌, cond, leb, sym, ap, ◌∙◌, subst, ap₂}
use Rattle.std.proofs.Common.{lt_of_le_of_lt, mul-le-mul_right, mul_assoc, mul_comm, add-mul, mul-le-mul, pow-suc, lt_of_not-le, mul-add}
use Rattle.std.proofs.Common.{not-le_of_lt, mul_left_comm, arith, lit<, pow_pos, le-leb}
use Prim.{yes, no}
use native.Mathlib.Decide.{dec_le}
use borrow.Author.Tests.{lt-leb}
use lib.Ieee.{Float}
use Rattle.root.specs.Root.{whole_root, near_root, radicand_of}
use Rattle.root.specs.Steps.{Open, Words, Found, Nearest}
use Rattle.root.specs.declared.Square.{Square}

-- ---- squares
-- they are in the order of their roots
pub sq_lt : (a b : ℕ) → a * a < b * b → a < b
sq_lt a b h = lt_of_not-le (λ (g : b ≤ a). not-le_of_lt h (mul-le-mul g g))

sq_next : (y : ℕ) → (y + 1) * (y + 1) ≡ y * y + 2 * y + 1
sq_next y = simp (mul-add, add-mul, mul_comm) (omega arith)

sq_two : (y : ℕ) → (2 * y) * (2 * y) ≡ 4 * (y * y)
sq_two y = simp (mul_assoc, mul_left_comm) (omega arith)

pub sq_up : (y : ℕ) → (2 * y + 1) * (2 * y + 1) ≡ 4 * (y * y) + 4 * y + 1
sq_up y = omega (arith, sq_next (2 * y), sq_two y)

-- ---- one place more
-- a place that is open is worth half of what is open
record Halved (n top : ℕ) : Type 0 where
  pub k : ℕ
  pub is : 2 ^ n ≡ top * 2
  pub worth : top ≡ 2 ^ k

halved : (n : ℕ) {top : ℕ} → top ≡ 2 ^ n / 2 → 0 < top → Halved n top
halved zero e h = record { k = 0; is = omega arith; worth = omega arith }
halved (suc k) e h = record { k = k; is = omega (arith, pow-suc 2 k); worth = omega (arith, pow-suc 2 k) }

-- what the words need
pub words : {x : Float} {top less : ℕ} {s : Square} → 0 < top → (less + top) % 2 ^ 64 ≡ 0 → Open x top s → Words top less s
words {x} {top} {less} {s} h l o =
    let q = halved o.n o.highest h in
    let b : s.step < 2 ^ 62 = omega (arith, o.reach, o.most) in
    record { some = h; minus = l; low = omega (arith, q.is, o.reach); step = b; rest = omega (arith, o.under, o.most) }

-- the place belongs to the root: the square grows by what is taken off
pub reached : {x : Float} {top : ℕ} {s : Square} (d : ℕ) → 0 < top → d + s.step ≡ s.rest → Open x top s
    → Open x (top / 2) (record { rest = d * 2; step = s.step + top * 3; power = s.power })
reached {x} {top} {s} d h e o =
    let q = halved o.n o.highest h in
    let y = o.y in
    let w : 4 * y + top * 2 + d ≡ s.rest = omega (arith, q.is, o.reach) in
    record {
      n = q.k;
      y = y + top;
      highest = ap (λ (z : ℕ). z / 2) q.worth;
      reach = omega (arith, q.is, q.worth, o.reach);
      under = omega (arith, q.is, q.worth, o.under);
      most = omega (arith, q.is, q.worth, o.most);
      fourfold =
          ap (λ (z : ℕ). d * 2 * z + 4 * ((y + top) * (y + top))) (sym q.worth)
          ∙ grown top y d ∙ ap₂ (λ (z v : ℕ). z * v + 4 * (y * y)) w (sym q.is) ∙ o.fourfold;
      scaled = o.scaled;
    }
  where
    grown : (b y d : ℕ) → d * 2 * b + 4 * ((y + b) * (y + b)) ≡ (4 * y + b * 2 + d) * (b * 2) + 4 * (y * y)
    grown b y d = simp (mul-add, add-mul, mul_assoc, mul_comm, mul_left_comm) (omega arith)

-- the place does not belong to it
pub missed : {x : Float} {top : ℕ} {s : Square} (t : ℕ) → 0 < top → s.rest < s.step → t + top ≡ s.step → Open x top s
    → Open x (top / 2) (record { rest = s.rest * 2; step = t; power = s.power })
missed {x} {top} {s} t h l e o =
    let q = halved o.n o.highest h in
    let around : s.rest * 2 * top ≡ s.rest * (top * 2) = simp (mul_assoc, mul_comm, mul_left_comm) in
    record {
      n = q.k;
      y = o.y;
      highest = ap (λ (z : ℕ). z / 2) q.worth;
      reach = omega (arith, q.is, q.worth, o.reach);
      under = omega (arith, q.is, q.worth, o.reach);
      most = omega (arith, q.is, q.worth, o.most);
      fourfold = rw (← q.worth, around, ← q.is) o.fourfold;
      scaled = o.scaled;
    }

-- ---- the nearest root
abbrev Whole : ℕ → ℕ → Type 0
Whole x y = (y * y ≤ x) × (x < (y + 1) * (y + 1))

-- its sizes: 2 ^ 52 to 2 ^ 53
nearest : (x y : ℕ) → (2 * y - 1) * (2 * y - 1) < 4 * x → 4 * x < (2 * y + 1) * (2 * y + 1) → 2 ^ 104 ≤ x → x ≤ 2 ^ 106 - 2 ^ 53
    → Nearest x y
nearest x y a b lo hi =
    let p : (2 * y - 1) * (2 * y - 1) < (2 ^ 54 - 1) * (2 ^ 54 - 1) = omega arith in
    let q : 2 ^ 53 * 2 ^ 53 < (2 * y + 1) * (2 * y + 1) = omega arith in
    let f : 2 ^ 53 < 2 * y + 1 = sq_lt (2 ^ 53) (2 * y + 1) q in
    record { above = a; below = b; first = omega arith; last = omega (arith, sq_lt (2 * y - 1) (2 ^ 54 - 1) p) }

rounds_down : (x y : ℕ) → Whole x y → x ≤ y * y + y → 2 ^ 104 ≤ x → x ≤ 2 ^ 106 - 2 ^ 53 → Nearest x y
rounds_down x zero w h lo hi = nearest x zero (omega arith) (omega arith) lo hi
rounds_down x (suc k) w h lo hi =
    let q : 2 * suc k - 1 ≡ 2 * k + 1 = omega arith in
    nearest x (suc k) (omega (arith, ap (λ (v : ℕ). v * v) q, sq_up k, sq_next k, w.0)) (omega (arith, sq_up (suc k))) lo hi

rounds_up : (x y : ℕ) → Whole x y → y * y + y < x → 2 ^ 104 ≤ x → x ≤ 2 ^ 106 - 2 ^ 53 → Nearest x (y + 1)
rounds_up x y w h lo hi =
    let q : 2 * (y + 1) - 1 ≡ 2 * y + 1 = omega arith in
    nearest x (y + 1) (omega (arith, ap (λ (v : ℕ). v * v) q, sq_up y)) (omega (arith, w.1, sq_up (y + 1))) lo hi

-- once no place is open
pub none_open : {x : Float} {top : ℕ} {s : Square} → top ≤ 0 → Open x top s → Open x 0 s
none_open {x} {top} {s} h o = let e : top ≡ 0 = omega arith in subst (λ (t : ℕ). Open x t s) e o

pub found : {x : Float} {top : ℕ} {s : Square} → top ≤ 0 → Open x top s → Found s
found {x} h o = record { x = x; none = none_open h o }

module _ {x : Float} {s : Square} (o : Open x 0 s) where
  closed : (s.step ≡ 4 * o.y + 1) × (s.rest < 8 * o.y + 4) × (s.rest + 4 * (o.y * o.y) ≡ 4 * radicand_of x)
  closed =
      let e : 2 ^ o.n ≡ 1 = omega (arith, pow_pos o.n, o.highest) in
      (rw e at o.reach, rw e at o.under, omega (arith, rw e at o.fourfold))

  whole : (s.step / 4 ≡ o.y) × Whole (radicand_of x) o.y
  whole = let c = closed in (omega (arith, c.0), (omega (arith, c.2), omega (arith, c.1, c.2, sq_next o.y)))

  pub ended_up : s.step / 4 * 4 < s.rest → Nearest (radicand_of x) (s.step / 4 + 1)
  ended_up h =
      let c = closed in
      rw whole.0 (rounds_up (radicand_of x) o.y whole.1 (omega (arith, c.0, c.2)) o.scaled.first o.scaled.last)

  pub ended_down : s.rest ≤ s.step / 4 * 4 → Nearest (radicand_of x) (s.step / 4)
  ended_down h =
      let c = closed in
      rw whole.0 (rounds_down (radicand_of x) o.y whole.1 (omega (arith, c.0, c.2)) o.scaled.first o.scaled.last)

-- there is but one
pub one_between : (y z : ℕ) → (2 * y - 1) * (2 * y - 1) < (2 * z + 1) * (2 * z + 1) → (2 * z - 1) * (2 * z - 1) < (2 * y + 1) * (2 * y + 1)
    → y ≡ z
one_between y z p q =
    let a : 2 * y - 1 < 2 * z + 1 = sq_lt (2 * y - 1) (2 * z + 1) p in
    let b : 2 * z - 1 < 2 * y + 1 = sq_lt (2 * z - 1) (2 * y + 1) q in
    omega arith

pub nearest_one : (x y z : ℕ) → Nearest x y → Nearest x z → y ≡ z
nearest_one x y z p q = one_between y z (omega (arith, p.above, q.below)) (omega (arith, q.above, p.below))

-- ---- the root of the definition
grow : (x z : ℕ) → Whole (x / 4) z → Whole x (cond (leb ((2 * z + 1) * (2 * z + 1)) x) (2 * z + 1) (2 * z))
grow x z h =
    elim (dec_le ((2 * z + 1) * (2 * z + 1)) x) [
      | yes k ↦ rw (le-leb ((2 * z + 1) * (2 * z + 1)) x k) (k, omega (arith, sq_second))
      | no k ↦ rw (lt-leb ((2 * z + 1) * (2 * z + 1)) x (lt_of_not-le k)) (omega (arith, sq_two z), lt_of_not-le k)
    ]
  where
    sq_second : (2 * z + 1 + 1) * (2 * z + 1 + 1) ≡ 4 * ((z + 1) * (z + 1))
    sq_second = simp (mul-add, add-mul, mul_assoc, mul_comm, mul_left_comm) (omega arith)

whole_root_is : (k x : ℕ) → x < 4 ^ k → Whole x (whole_root k x)
unfolding whole_root
whole_root_is zero x h = (omega arith, omega arith)
whole_root_is (suc k) x h = grow x (whole_root k (x / 4)) (whole_root_is k (x / 4) (omega (arith, pow-suc 4 k)))

pub near_root_is : (x : ℕ) → 2 ^ 104 ≤ x → x ≤ 2 ^ 106 - 2 ^ 53 → Nearest x (near_root x)
unfolding near_root
near_root_is x lo hi = near (whole_root 53 x) (whole_root_is 53 x (lt_of_le_of_lt hi (lit< tt)))
  where
    near : (y : ℕ) → Whole x y → Nearest x (cond (leb x (y * y + y)) y (y + 1))
    near y w =
        elim (dec_le x (y * y + y)) [
          | yes h ↦ rw (le-leb x (y * y + y) h) (rounds_down x y w h lo hi)
          | no n ↦ rw (lt-leb x (y * y + y) (lt_of_not-le n)) (rounds_up x y w (lt_of_not-le n) lo hi)
        ]

-- ---- a number of 53 digits, or one place up: 53 or 54 digits
pub record Paired (m b : ℕ) : Type 0 where
  pub word : m * 2 ^ (b + 1) % 2 ^ 64 ≡ m * 2 ^ b * 2
  pub first : 2 ^ 52 ≤ m * 2 ^ b
  pub last : m * 2 ^ b ≤ 2 ^ 54 - 2

pub paired : (m b : ℕ) → 2 ^ 52 ≤ m → m < 2 ^ 53 → b < 2 → Paired m b
paired m zero lo hi h = record { word = omega arith; first = omega arith; last = omega arith }
paired m (suc zero) lo hi h = record { word = omega arith; first = omega arith; last = omega arith }
paired m (suc (suc b)) lo hi h = absurd (none h)
  where
    none : suc (suc b) < 2 → ⊥
    none h = omega arith

-- with 52 places more it has 105 or 106 digits, and so a nearest root
pub paired_near : {m b : ℕ} → Paired m b → Nearest (m * 2 ^ b * 2 ^ 52) (near_root (m * 2 ^ b * 2 ^ 52))
paired_near {m} {b} p = near_root_is (m * 2 ^ b * 2 ^ 52) (mul-le-mul_right (2 ^ 52) p.first) (mul-le-mul_right (2 ^ 52) p.last)
