-- What the inner functions of this crate promise one another: a whole square root, place by place. No definition of
-- document 01 stands on this file. Definitions only.
use Rattle.std.specs.Prelude.{◌≡◌, ℕ, ◌+◌, ◌-◌, ◌*◌, ◌/◌, ◌%◌, ◌^◌, ◌<◌, ◌≤◌, T, Float}
use Rattle.std.specs.Float.Ieee.Positive.{positive}
use Rattle.root.specs.Root.{radicand_of, places_of, root_of}
use Rattle.root.specs.declared.Square.{Square}

-- x is positive, its radicand has 105 or 106 binary digits, and the root is Y·2^power units of 2^−1074: power is
-- document 01's q + 1074
pub record Scaled (x : Float) (power : ℕ) : Type 0 where
  pub above : T (positive x)
  pub first : 2 ^ 104 ≤ radicand_of x
  pub last : radicand_of x ≤ 2 ^ 106 - 2 ^ 53
  pub places : power ≡ places_of x + 484
  pub high : power < 2046

-- of the root of x all but the n lowest binary places are found, y: rest is four times what the radicand is above y²,
-- in units of 2^n. The highest open place is worth top = 2^(n − 1), or 0 where none is, and it belongs to the root
-- where rest reaches the step
pub record Open (x : Float) (top : ℕ) (s : Square) : Type 0 where
  pub n : ℕ
  pub y : ℕ
  pub highest : top ≡ 2 ^ n / 2
  pub reach : s.step ≡ 4 * y + 2 ^ n
  pub under : s.rest < 8 * y + 4 * 2 ^ n
  pub most : y + 2 ^ n ≤ 2 ^ 53
  pub fourfold : s.rest * 2 ^ n + 4 * (y * y) ≡ 4 * radicand_of x
  pub scaled : Scaled x s.power

-- what a place needs of the words; less is −top, modulo 2^64
pub record Words (top less : ℕ) (s : Square) : Type 0 where
  pub some : 0 < top
  pub minus : (less + top) % 2 ^ 64 ≡ 0
  pub low : top ≤ s.step
  pub step : s.step < 2 ^ 62
  pub rest : s.rest < 2 ^ 62

-- one place more, whatever number is rooted
abbrev pub Placed : ℕ → Square → Square → Type 0
Placed top s r = (x : Float) → Open x top s → Open x (top / 2) r

-- no place is open, of the root of some number
pub record Found (s : Square) : Type 0 where
  pub x : Float
  pub none : Open x 0 s

-- r is the root, whatever number is rooted
abbrev pub Finished : Square → Float → Type 0
Finished s r = (x : Float) → Open x 0 s → r ≡ root_of x

-- y is the whole number nearest to the square root of x, which has 105 or 106 binary digits, and y has 53
pub record Nearest (x y : ℕ) : Type 0 where
  pub above : (2 * y - 1) * (2 * y - 1) < 4 * x
  pub below : 4 * x < (2 * y + 1) * (2 * y + 1)
  pub first : 2 ^ 52 ≤ y
  pub last : y < 2 ^ 53
