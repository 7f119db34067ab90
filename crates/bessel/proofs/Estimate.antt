-- The estimate of a concentration: NaN for NaN, otherwise within its bounds, since the held length r is positive, 1 − r·r is too, and so the
-- quotient is no NaN; and two exact cases, computed. Assumes nothing.
use mathlib.Core.Path.{◌≡◌, refl, ap, ◌∙◌}
use mathlib.Core.Bool.{Bool, true, false, not, cond}
use Prim.Native.Nat.{ℕ}
use lib.Dec.{T, leb}
use lib.Ieee.{Float, nan, inf, fin, binary64, sub, mul, div, lt, le, is_nan, of_int, of_bits}
use lib.Ieee.Bits.{is_false}
use lib.Ieee.Positive.{positive}
use Rattle.float.specs.Arithmetic.{f64, number, clamp_of}
use Rattle.float.proofs.Order.{no_nan}
use Rattle.float.proofs.Numbers.{whole_number, sub_number, mul_number, div_number}
use Rattle.float.proofs.Interval.{In, in_pos, mul_in, sub_in}
use Rattle.float.proofs.ClampOf.{clamp_nan, clamp_in}
use Rattle.bessel.specs.Concentration.{kappa_min, short_of_one, kappa_max, banerjee, estimate_of, Estimated}

-- ---- the bounds of r, r·r and 1 − r·r, computed
abbrev most : Float
most = sub binary64 (number 1) short_of_one

abbrev square : Float → Float
square x = mul binary64 x x

abbrev rest : Float → Float
rest x = sub binary64 (number 1) (square x)

lengths : T (le kappa_min most) × T (positive kappa_min) × T (positive most)
unfolding of_bits of_int sub le
lengths = (tt, tt, tt)

squares : T (positive (number 1)) × T (positive (square kappa_min)) × T (positive (square most)) × T (le (square most) (number 1))
unfolding of_bits of_int sub mul le
squares = (tt, tt, tt, tt)

rests : T (positive (rest most)) × T (positive (rest kappa_min))
unfolding of_bits of_int sub mul
rests = (tt, tt)

cap_above : (d : ℕ) → T (le kappa_min (kappa_max d))
unfolding of_bits of_int le
cap_above d = go (leb d 3)
  where
    go : (b : Bool) → T (le kappa_min (cond b (number 10000) (number 1000000)))
    go true = tt
    go false = tt

-- ---- a number's estimate
quotient_number : (d : ℕ) (r : Float) → In kappa_min most r → T (not (is_nan (banerjee d r)))
quotient_number d r i =
    let l = lengths in
    let s = squares in
    let p = in_pos kappa_min most r l.1 l.2 i in
    let j = mul_in binary64 kappa_min most r kappa_min most r l.1 l.2 l.1 l.2 i i in
    let q = in_pos (square kappa_min) (square most) (square r) s.1 s.2 j in
    let k = sub_in binary64 (number 1) (square kappa_min) (square most) (square r) s.0 s.1 s.2 s.3 j in
    div_number binary64 (mul binary64 r (sub binary64 (number d) (square r))) (rest r)
    (mul_number binary64 r (sub binary64 (number d) (square r)) p (sub_number binary64 (number d) (square r) (whole_number binary64 d) q))
    (in_pos (rest most) (rest kappa_min) (rest r) rests.0 rests.1 k)

within : (d : ℕ) (rbar : Float) → T (not (is_nan rbar)) → In kappa_min (kappa_max d) (estimate_of d rbar)
unfolding estimate_of
within d rbar g =
    let r = clamp_of rbar kappa_min most in
    clamp_in (banerjee d r) kappa_min (kappa_max d) (quotient_number d r (clamp_in rbar kappa_min most g lengths.0)) (cap_above d)

-- ---- a NaN's
of_nan : (d : ℕ) → estimate_of d nan ≡ nan
unfolding estimate_of mul div
of_nan d = rw (clamp_nan kappa_min most) (clamp_nan kappa_min (kappa_max d))

nan_as : (d : ℕ) (rbar : Float) → is_nan (estimate_of d rbar) ≡ is_nan rbar
unfolding is_nan
nan_as d nan = ap is_nan (of_nan d)
nan_as d (inf s) = is_false (is_nan (estimate_of d (inf s))) (no_nan kappa_min (estimate_of d (inf s)) (within d (inf s) tt).0).1
nan_as d (fin s m e) = is_false (is_nan (estimate_of d (fin s m e))) (no_nan kappa_min (estimate_of d (fin s m e)) (within d (fin s m e) tt).0).1

-- ---- 0.5 at d = 4 and at d = 1
four : estimate_of 4 (f64 0x3FE0000000000000) ≡ f64 0x4004000000000000
unfolding estimate_of clamp_of lt sub mul div of_int of_bits
four = refl

one : estimate_of 1 (f64 0x3FE0000000000000) ≡ f64 0x3FE0000000000000
unfolding estimate_of clamp_of lt sub mul div of_int of_bits
one = refl

pub estimated : (d : ℕ) (rbar r : Float) → r ≡ estimate_of d rbar → Estimated d rbar r
estimated d rbar r v =
    record {
      value = v;
      nan_for_nan = ap is_nan v ∙ nan_as d rbar;
      least = λ g. rw v (within d rbar g).0;
      most = λ g. rw v (within d rbar g).1;
      at_four = λ e h. v ∙ rw (e, h) four;
      at_one = λ e h. v ∙ rw (e, h) one;
    }
