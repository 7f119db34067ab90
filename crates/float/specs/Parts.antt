-- A positive f64 taken apart and put together. Definitions only.
use Rattle.std.specs.Prelude.{◌≡◌, false, ℕ, ◌*◌, ◌/◌, ◌^◌, ◌<◌, ◌≤◌, Float}
use Rattle.std.specs.Float.{fin, binary64}
use Rattle.std.specs.Float.Ieee.{minus, round}
use Rattle.std.specs.Float.Ieee.Positive.{num, den}

-- a positive x in units of 2^−1074, the smallest f64: a whole number for every f64
unfoldable pub units_of : Float → ℕ
units_of x = num x * 2 ^ 1074 / den x

-- 2^(n − 1023), n being the exponent's field
abbrev pub power_of : ℕ → Float
power_of n = fin false 1 (minus n 1023)

-- y·2^k·2^−1074
abbrev pub value_of : ℕ → ℕ → Float
value_of y k = round binary64 false (y * 2 ^ k) (2 ^ 1074)

-- x is m·2^e·2^−1126, and m has 53 binary digits
pub record SplitOf (x : Float) (m e : ℕ) : Type 0 where
  pub value : num x * 2 ^ 1126 ≡ m * 2 ^ e * den x
  pub first : 2 ^ 52 ≤ m
  pub last : m < 2 ^ 53
  pub high : e ≤ 2097
