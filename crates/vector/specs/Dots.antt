-- Dot products with several rows at once. Definitions only.
use Rattle.std.specs.Prelude.{◌≡◌, List, [], ◌∷◌, ℕ, length, Float}
use Rattle.rows.specs.Rows.{row_of}
use Rattle.rows.specs.Tabulate.{tabulate}
use Rattle.vector.specs.Vectors.{dot_of}

-- the dot of x with each of n rows of d numbers
abbrev pub dots_of : (x rows : List Float) (d n : ℕ) → List Float
dots_of x rows d n = tabulate (λ c. dot_of x (row_of rows d c)) n

-- what the dots with four vectors that lie anywhere ask: vectors of one length
pub record FourRows (p q r s : List Float) : Type 0 where
  pub second : length q ≡ length p
  pub third : length r ≡ length p
  pub last : length s ≡ length p

-- the dot of x with each of the four
abbrev pub dot4_of : (x p q r s : List Float) → List Float
dot4_of x p q r s = dot_of x p ∷ dot_of x q ∷ dot_of x r ∷ dot_of x s ∷ []
