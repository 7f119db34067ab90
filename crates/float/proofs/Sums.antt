-- Sums of whole numbers as floats are exact. Nothing stands on it yet: document 02, #109, will. Assumes nothing.
use mathlib.Core.Path.{◌≡◌, refl, sym, ap, ◌∙◌}
use mathlib.Core.List.{List, [], ◌∷◌}
use Prim.Native.Nat.{ℕ, zero, suc, ◌+◌, ◌-◌, ◌*◌, ◌≤◌, ◌<◌}
use native.Mathlib.Omega.{arith}
use lib.IntN.{pos}
use lib.ListN.{length}
use native.Mathlib.Nat.{zero-mul, one-mul, mul-pos, mul-suc, eq-zero-or-pos}
use mathlib.Core.Bool.{true, false, true≢false}
use mathlib.Core.Logic.{inl, inr}
use borrow.Author.Tests.{lt-ltb, le-ltb}
use lib.Dec.{lit<}
use lib.Ieee.{Float, nan, inf, fin, binary64, up, down, add, sum, round, of_int}
use lib.Ieee.Fits.{down_pos}
use lib.Ieee.Exact.{HasValue}
use lib.Ieee.Scale.{round_same}
use lib.Ieee.Back.{round_whole}
use Rattle.float.specs.Arithmetic.{number, sum_from}
use Rattle.float.proofs.Whole.{add_whole}

abbrev pub numbers : List ℕ → List Float
numbers [] = []
numbers (n ∷ ns) = number n ∷ numbers ns

abbrev pub total : List ℕ → ℕ
total [] = 0
total (n ∷ ns) = n + total ns

pub sum_exact : (s : ℕ) (ns : List ℕ) → s + total ns ≤ 9007199254740992 → sum_from (number s) (numbers ns) ≡ number (s + total ns)
sum_exact s [] h = ap number (the s (s + 0) (omega arith))
  where
    the : (a b : ℕ) → a ≡ b → a ≡ b
    the a b e = e
sum_exact s (n ∷ ns) h =
    ap (λ (z : Float). sum_from z (numbers ns)) (add_whole binary64 s n (omega arith) (omega arith))
    ∙ sum_exact (s + n) ns (omega arith) ∙ ap number (the (s + n + total ns) (s + (n + total ns)) (omega arith))
  where
    the : (a b : ℕ) → a ≡ b → a ≡ b
    the a b e = e

-- a sum that starts at -0, as Rust's does
pub minus_zero_add : (y : Float) (b : ℕ) → HasValue y false b 1 → add binary64 (fin true 0 (pos 0)) y ≡ round binary64 false b 1
unfolding add sum
minus_zero_add nan b h = absurd h
minus_zero_add (inf s) b h = absurd h
minus_zero_add (fin true m e) b h = absurd (true≢false h.0)
minus_zero_add (fin false m e) b h =
    let D = 1 * down e in
    let a = 0 * down e in
    let n = m * up e * 1 in
    elim (eq-zero-or-pos n) [
      | inl z ↦
          let l : n ≤ a = omega (arith, zero-mul (down e)) in
          let l' : a ≤ n = omega (arith, zero-mul (down e)) in
          rw (le-ltb a n l, le-ltb n a l')
          (round_same binary64 false (a - n) D b 1 (omega (arith, down_pos e)) (lit< tt) (same (a - n) b D (omega (arith, zero-mul (down e))) (nil b (down e) (down_pos e) (sym h.1 ∙ z))))
      | inr p ↦
          let l : a < n = omega (arith, zero-mul (down e)) in
          rw (lt-ltb a n l)
          (round_same binary64 false (n - a) D b 1 (omega (arith, down_pos e)) (lit< tt) (omega (arith, zero-mul (down e), h.1, ap (λ (z : ℕ). b * z) (one-mul (down e)))))
    ]
  where
    nil : (b d : ℕ) → 0 < d → b * d ≡ 0 → b ≡ 0
    nil zero d p e = refl
    nil (suc b) d p e = absurd (clash (suc b * d) (mul-pos {m = suc b} (omega arith) p) e)
      where
        clash : (x : ℕ) → 0 < x → x ≡ 0 → ⊥
        clash x l e = omega arith

    same : (x b d : ℕ) → x ≡ 0 → b ≡ 0 → x * 1 ≡ b * d
    same x b d p q = rw (p, q) (sym (zero-mul d))

pub sum_from_minus_zero : (n : ℕ) (ns : List ℕ) → n + total ns ≤ 9007199254740992 → sum_from (fin true 0 (pos 0)) (numbers (n ∷ ns)) ≡ number (n + total ns)
unfolding of_int
sum_from_minus_zero n ns h =
    ap (λ (z : Float). sum_from z (numbers ns)) (minus_zero_add (number n) n (round_whole binary64 false n (omega arith)))
    ∙ sum_exact n ns h

-- at most 4,096 weights up to 2 ^ 40
abbrev pub Below : ℕ → List ℕ → Type 0
Below B [] = Unit {0}
Below B (n ∷ ns) = (n ≤ B) × Below B ns

pub total_below : (B : ℕ) (ns : List ℕ) → Below B ns → total ns ≤ B * length ns
total_below B [] h = omega arith
total_below B (n ∷ ns) h = rw (mul-suc B (length ns)) (omega (arith, total_below B ns h.1, h.0))

pub weights_exact : (n : ℕ) (ns : List ℕ) → Below 1099511627776 (n ∷ ns) → length (n ∷ ns) ≤ 4096 → sum_from (fin true 0 (pos 0)) (numbers (n ∷ ns)) ≡ number (total (n ∷ ns))
weights_exact n ns h l = sum_from_minus_zero n ns (omega (arith, total_below 1099511627776 (n ∷ ns) h))

-- a list in another order
pub data Shuffled : List ℕ → List ℕ → Type 0 where
  none : Shuffled [] []
  keep : (a : ℕ) {x y : List ℕ} → Shuffled x y → Shuffled (a ∷ x) (a ∷ y)
  swap : (a b : ℕ) (x : List ℕ) → Shuffled (a ∷ b ∷ x) (b ∷ a ∷ x)
  then : {x y z : List ℕ} → Shuffled x y → Shuffled y z → Shuffled x z

pub total_shuffled : {x y : List ℕ} → Shuffled x y → total x ≡ total y
total_shuffled none = refl
total_shuffled (keep a s) = ap (λ (z : ℕ). a + z) (total_shuffled s)
total_shuffled (swap a b x) = omega arith
total_shuffled (then s t) = total_shuffled s ∙ total_shuffled t

pub any_order : (s : ℕ) (x y : List ℕ) → Shuffled x y → s + total x ≤ 9007199254740992 → sum_from (number s) (numbers x) ≡ sum_from (number s) (numbers y)
any_order s x y p h =
    let e = total_shuffled p in
    sum_exact s x h ∙ ap (λ (z : ℕ). number (s + z)) e ∙ sym (sum_exact s y (rw (← e) h))
