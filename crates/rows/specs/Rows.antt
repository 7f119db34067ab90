-- Flat arrays: parts and rows of a list. Document 01, 'From generics and vectors to lent slices': vectors of
-- vectors become flat arrays with a row length. Definitions only.
use Rattle.std.specs.Prelude.{◌≡◌, List, ◌++◌, ℕ, ◌+◌, ◌*◌, ◌≤◌, length, take, drop}

-- the n elements from place `at` on, and the list with others in their place
abbrev pub part : {A : Type 0} → List A → ℕ → ℕ → List A
part l at n = take n (drop at l)

abbrev pub put_part : {A : Type 0} → List A → ℕ → ℕ → List A → List A
put_part l at n r = take at l ++ (r ++ drop n (drop at l))

-- row c of rows of d elements
abbrev pub row_of : {A : Type 0} → List A → ℕ → ℕ → List A
row_of l d c = part l (c * d) d

-- what a function that writes a whole row asks: a row as long as what is written
pub record Alike {A : Type 0} {B : Type 0} (a : List A) (b : List B) : Type 0 where
  pub same : length a ≡ length b

-- what a copy within one array asks: two parts of n elements that do not meet, the one written before the one read
pub record Apart (whole from to n : ℕ) : Type 0 where
  pub order : to + n ≤ from
  pub within : from + n ≤ whole
