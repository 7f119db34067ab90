-- Document 01, 'Arithmetic under the Rust': constants, sums, maximum, clamp and absolute value of f64, over the kit's
-- IEEE 754 (`lib.Ieee`). Definitions only. An f64 is a `Float` that `binary64` holds; there is one `nan`, so all NaN
-- are one.
use Rattle.std.specs.Prelude.{ℕ, false, true, cond, pos, List, [], ◌∷◌, Float}
use Rattle.std.specs.Float.{nan, inf, fin, binary64}
use Rattle.std.specs.Float.Ieee.{add, mul, lt, is_nan, of_int, of_bits}

-- the f64 of a bit pattern
abbrev pub f64 : ℕ → Float
f64 b = of_bits binary64 b

-- the f64 of a whole number, rounded to the nearest where it has more than 53 binary digits
abbrev pub number : ℕ → Float
number n = of_int binary64 (pos n)

-- the two zeros
abbrev pub plus_zero : Float
plus_zero = fin false 0 (pos 0)

abbrev pub minus_zero : Float
minus_zero = fin true 0 (pos 0)

-- An accumulator that starts at s, with each in turn added, rounded one by one: Rust's `sum` is `sum_from minus_zero`, an
-- adding fold `sum_from plus_zero`.
abbrev pub sum_from : Float → List Float → Float
sum_from s [] = s
sum_from s (x ∷ xs) = sum_from (add binary64 s x) xs

-- the same of the products of two lists, to the end of the shorter
abbrev pub dot_from : Float → List Float → List Float → Float
dot_from s [] ys = s
dot_from s (x ∷ xs) [] = s
dot_from s (x ∷ xs) (y ∷ ys) = dot_from (add binary64 s (mul binary64 x y)) xs ys

-- The greater of two. With one NaN it is the other operand, and of two that compare equal the first (so a zero keeps
-- the first one's sign).
unfoldable pub max_of : Float → Float → Float
max_of x y = cond (is_nan x) y (cond (lt x y) y x)

-- x held to [low, high]: low where x is below it, high where x is above it. A NaN passes.
unfoldable pub clamp_of : Float → Float → Float → Float
clamp_of x low high = cond (lt x low) low (cond (lt high x) high x)

-- x without its sign
unfoldable pub abs_of : Float → Float
abs_of nan = nan
abs_of (inf s) = inf false
abs_of (fin s m e) = fin false m e
