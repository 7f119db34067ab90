-- Laws of four dot products at once: with j turns done, what is left of each from its accumulator is the whole dot. By the laws of a single
-- dot. Assumes nothing.
use mathlib.Core.Path.{◌≡◌, refl, sym, ◌∙◌}
use mathlib.Core.List.{List, [], ◌∷◌}
use Prim.Native.Nat.{ℕ, ◌+◌, ◌≤◌, ◌<◌, min}
use native.Mathlib.Omega.{arith}
use lib.ListN.{length, get_or, drop}
use lib.Ieee.{Float, nan, binary64, add, mul}
use Rattle.float.specs.Arithmetic.{minus_zero, dot_from}
use Rattle.vector.specs.Vectors.{dot_of}
use Rattle.vector.specs.Dots.{FourRows, dot4_of}
use Rattle.vector.proofs.Vectors.{dot_turn, dot_end}

module _ (x p q r s : List Float) where
  -- j turns are done
  pub record FourGoing (a b c e : Float) (j : ℕ) : Type 0 where
    pub rows : FourRows p q r s
    pub at_p : dot_from a (drop j x) (drop j p) ≡ dot_of x p
    pub at_q : dot_from b (drop j x) (drop j q) ≡ dot_of x q
    pub at_r : dot_from c (drop j x) (drop j r) ≡ dot_of x r
    pub at_s : dot_from e (drop j x) (drop j s) ≡ dot_of x s

  pub four_begun : FourRows p q r s → FourGoing minus_zero minus_zero minus_zero minus_zero 0
  four_begun h = record { rows = h; at_p = refl; at_q = refl; at_r = refl; at_s = refl }

  pub four_going : (a b c e : Float) (j : ℕ) → j < min (length x) (length p) → FourGoing a b c e j
      → FourGoing (add binary64 a (mul binary64 (get_or x j nan) (get_or p j nan)))
      (add binary64 b (mul binary64 (get_or x j nan) (get_or q j nan)))
      (add binary64 c (mul binary64 (get_or x j nan) (get_or r j nan)))
      (add binary64 e (mul binary64 (get_or x j nan) (get_or s j nan))) (j + 1)
  four_going a b c e j h g = record {
    rows = g.rows;
    at_p = dot_turn a x p j (omega arith) (omega arith) ∙ g.at_p;
    at_q = dot_turn b x q j (omega arith) (omega (arith, g.rows.second)) ∙ g.at_q;
    at_r = dot_turn c x r j (omega arith) (omega (arith, g.rows.third)) ∙ g.at_r;
    at_s = dot_turn e x s j (omega arith) (omega (arith, g.rows.last)) ∙ g.at_s;
  }

  pub four_gone : (a b c e : Float) (j : ℕ) → min (length x) (length p) ≤ j → FourGoing a b c e j
      → ◌≡◌ {A = List Float} (a ∷ b ∷ c ∷ e ∷ []) (dot4_of x p q r s)
  four_gone a b c e j h g =
      let at_p : a ≡ dot_of x p = sym (dot_end a x p j (omega arith)) ∙ g.at_p in
      let at_q : b ≡ dot_of x q = sym (dot_end b x q j (omega (arith, g.rows.second))) ∙ g.at_q in
      let at_r : c ≡ dot_of x r = sym (dot_end c x r j (omega (arith, g.rows.third))) ∙ g.at_r in
      let at_s : e ≡ dot_of x s = sym (dot_end e x s j (omega (arith, g.rows.last))) ∙ g.at_s in
      cc
