-- What the inner functions of this crate promise one another: the field of a power of two, and a series on its way. No
-- definition of document 01 stands on this file. Definitions only.
use Rattle.std.specs.Prelude.{◌≡◌, Bool, true, false, ◌&&◌, ℕ, ◌+◌, ◌*◌, ◌%◌, ◌≤◌, ◌<◌, ℤ, Float}
use Rattle.std.specs.Float.{nan, inf, fin, binary64}
use Rattle.std.specs.Float.Ieee.{up, down, minus, add, mul, div, neg, lt, le, of_int, to_bits}
use Rattle.float.specs.Arithmetic.{f64, number}
use Rattle.exponential.specs.Exponential.{exp_from, left_of, floor_of, turns_of}
use Rattle.exponential.specs.declared.Term.{Term}

-- ---- one exponential between its borders

-- −708 ≤ x ≤ 709, and so x is no NaN
abbrev pub inside : Float → Bool
inside x = le (neg (number 708)) x && le x (number 709)

-- −745 ≤ x < −708
abbrev pub low : Float → Bool
low x = le (neg (number 745)) x && lt x (neg (number 708))

-- −B ≤ y ≤ P / Q
abbrev pub Span : ℕ → ℕ → ℕ → Float → Type 0
Span B P Q nan = ⊥
Span B P Q (inf s) = ⊥
Span B P Q (fin true m e) = m * up e ≤ B * down e
Span B P Q (fin false m e) = m * up e * Q ≤ P * down e

-- b is the exponent's field of the normal number 2^n
pub record FieldOf (n : ℤ) (b : ℕ) : Type 0 where
  pub value : minus b 1023 ≡ n
  pub least : 0 < b
  pub most : b < 2047

-- the 52 last binary digits of a float's pattern
abbrev pub digits_of : Float → ℕ
digits_of u = to_bits binary64 u % 4503599627370496

-- u is 2^52 + b, b being that field
pub record Lifted (n : ℤ) (u : Float) : Type 0 where
  pub b : ℕ
  pub field : FieldOf n b
  pub value : u ≡ number (4503599627370496 + b)

-- the series at the rest of x, n being a whole number as a float
abbrev pub series_of : Float → Float → Float
series_of x n = exp_from 13 (left_of x n) (number 1)

-- n is x's whole number as a float, and w is 2^n
pub record OnePower (x n w : Float) : Type 0 where
  pub whole : n ≡ of_int binary64 (floor_of (turns_of x))
  pub power : w ≡ fin false 1 (floor_of (turns_of x))

-- ---- the series on its way

-- where the series of x begins: what is left of x past its whole number, with 2^n beside it
abbrev pub begun : Float → Term
begun x =
    record { r = left_of x (of_int binary64 (floor_of (turns_of x))); p = number 1; w = fin false 1 (floor_of (turns_of x)) }

-- one step, p = 1 + (r·p)/j, and the j last steps
abbrev pub stepped : Float → Term → Term
stepped j t = record { r = t.r; p = add binary64 (f64 0x3FF0000000000000) (div binary64 (mul binary64 t.r t.p) j); w = t.w }

abbrev pub summed : ℕ → Term → Term
summed j t = record { r = t.r; p = exp_from j t.r t.p; w = t.w }
