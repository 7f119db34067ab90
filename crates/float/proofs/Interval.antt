-- Floats in an interval: its ends, a product and a difference of positive ones. Assumes nothing.
use mathlib.Core.Bool.{not}
use lib.Dec.{T, not_T}
use lib.Ieee.{Float, Format, mul, sub, le, lt, is_nan}
use lib.Ieee.Positive.{positive, between, mul_mono, sub_anti, le_trans_positive}
use Rattle.float.proofs.Order.{lt_irrefl, le_of_nlt}

pub le_refl : (x : Float) → T (not (is_nan x)) → T (le x x)
le_refl x g = le_of_nlt x x g g (not_T (lt x x) (lt_irrefl x))

-- a ≤ z ≤ b
abbrev pub In : Float → Float → Float → Type 0
In a b z = T (le a z) × T (le z b)

pub in_pos : (a b z : Float) → T (positive a) → T (positive b) → In a b z → T (positive z)
in_pos a b z p q i = between a z b p q i.0 i.1

pub mul_in : (f : Format) (xl xh x yl yh y : Float) → T (positive xl) → T (positive xh) → T (positive yl) → T (positive yh) → In xl xh x → In yl yh y → In (mul f xl yl) (mul f xh yh) (mul f x y)
mul_in f xl xh x yl yh y a b c d i j =
    let p = in_pos xl xh x a b i in
    let q = in_pos yl yh y c d j in
    (mul_mono f xl x yl y a p c q i.0 j.0, mul_mono f x xh y yh p b q d i.1 j.1)

pub sub_in : (f : Format) (c yl yh y : Float) → T (positive c) → T (positive yl) → T (positive yh) → T (le yh c) → In yl yh y → In (sub f c yh) (sub f c yl) (sub f c y)
sub_in f c yl yh y a b d k j =
    let q = in_pos yl yh y b d j in
    (sub_anti f c y yh a q d j.1 k, sub_anti f c yl y a b q j.0 (le_trans_positive y yh c q d a j.1 k))
