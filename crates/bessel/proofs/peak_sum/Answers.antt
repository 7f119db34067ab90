-- `bessel::peak_sum` meets its contract.
use mathlib.Core.Path.{◌≡◌, refl, sym, ap, ◌∙◌}
use mathlib.Core.Bool.{Bool, true, false, ◌&&◌, ◌||◌, true≢false}
use Prim.Native.Nat.{ℕ, suc, ◌+◌, ◌-◌, ◌^◌, ◌≤◌}
use native.Mathlib.Omega.{arith}
use lib.Dec.{le→leb}
use lib.Ieee.{Float, binary64, add, sub, mul, lt, of_int, of_bits, to_unsigned, in_float}
use lib.Ieee.Back.{unsigned_back}
use borrow.Author.Tests.{ltb-false}
use Rattle.float.specs.Arithmetic.{number}
use Rattle.float.proofs.Whole.{add_whole, lt_whole}
use Rattle.bessel.specs.declared.PeakSum.{PeakSum}
use Rattle.gamma.specs.Gamma.{half}
use Rattle.bessel.specs.Normalizer.{term_after, with_term, ends_at, series_from}
use Rattle.bessel.proofs.peak_sum.Goals as goal

one : of_bits binary64 4607182418800017408 ≡ number 1
unfolding of_int of_bits
one = refl

-- ---- one turn of the definition, at what the calls hand back
module _ (n : ℕ) (nu kappa h l : Float) (s : PeakSum) (m a : Float) (t : PeakSum) (b : Bool) (p : a ≡ term_after nu h m l) (q : t ≡ with_term s a)
    (r : b ≡ ends_at kappa m t.peak a) where
  test_is : ends_at kappa m (with_term s (term_after nu h m l)).peak (term_after nu h m l) ≡ b
  test_is = sym (rw (q, p) at r)

  go_on : b ≡ false → series_from (suc n) nu kappa h l s m ≡ series_from n nu kappa h a t (add binary64 m (number 1))
  unfolding series_from
  go_on e = rw (q, p, test_is, e)

  stop : b ≡ true → series_from (suc n) nu kappa h l s m ≡ t
  unfolding series_from
  stop e = rw (q, p, test_is, e)

-- ---- the counter
whole : (n : ℕ) → n ≤ 300000 → to_unsigned 64 (number n) ≡ n
unfolding in_float
whole n h = (unsigned_back binary64 64 n (le→leb n (2 ^ 53) (omega arith)) (omega arith)).1

second : (x y : Bool) → (x || y) ≡ false → y ≡ false
second true y e = absurd (true≢false e)
second false y e = e

in_count : (kappa m peak l : Float) (b : Bool) → b ≡ ends_at kappa m peak l → b ≡ false → lt (number 200000) m ≡ false
in_count kappa m peak l b r e = second (lt (mul binary64 kappa half) m && lt l (sub binary64 peak (number 40))) (lt (number 200000) m) (sym r ∙ e)

below : (k : ℕ) (m : Float) → k ≤ 200000 → m ≡ number (k + 1) → lt (number 200000) m ≡ false → k + 1 ≤ 200000
below k m h e t = ltb-false _ _ (sym (lt_whole binary64 200000 (k + 1) (omega arith) (omega arith)) ∙ ap (lt (number 200000)) (sym e) ∙ t)

next : (k : ℕ) (m : Float) → k ≤ 200000 → m ≡ number (k + 1) → add binary64 m (of_bits binary64 4607182418800017408) ≡ number (k + 1 + 1)
next k m h e = ap (add binary64 m) one ∙ ap (λ (z : Float). add binary64 z (number 1)) e ∙ add_whole binary64 (k + 1) 1 (omega arith) (omega arith)

pub loop-s-init : goal.loop-s-init
unfolding of_int of_bits
loop-s-init c = (0, omega arith, refl, refl)

pub loop-s-smaller : goal.loop-s-smaller
loop-s-smaller c =
    let v = c.loop-s.invariant in
    let m = c.loop-s.m in
    let b = below v.0 m v.1 v.2 (in_count _ m _ _ _ c.ends_at.ensures c.if-ends_at.false) in
    let e = ap (to_unsigned 64) v.2 ∙ whole (v.0 + 1) (omega arith) in
    let e' = ap (to_unsigned 64) (next v.0 m v.1 v.2) ∙ whole (v.0 + 1 + 1) (omega arith) in
    omega arith

pub loop-s-preserved : goal.loop-s-preserved
loop-s-preserved c =
    let v = c.loop-s.invariant in
    let m = c.loop-s.m in
    let b = below v.0 m v.1 v.2 (in_count _ m _ _ _ c.ends_at.ensures c.if-ends_at.false) in
    let g = go_on (200000 - v.0) _ _ _ _ _ _ _ _ _ c.term_after-log_a.ensures c.with_term-s.ensures c.ends_at.ensures c.if-ends_at.false in
    let f : 200000 - v.0 ≡ suc (200000 - (v.0 + 1)) = omega arith in
    (v.0 + 1, b, next v.0 m v.1 v.2, rw (← f, one) (sym g ∙ v.3))

pub returns : goal.returns
returns c =
    let v = c.loop-s.invariant in
    sym (stop (200000 - v.0) _ _ _ _ _ _ _ _ _ c.term_after-log_a.ensures c.with_term-s.ensures c.ends_at.ensures c.if-ends_at.true) ∙ v.3
