-- vmf.rs, 'shared helpers', on lists of f64: each in the Rust's order of operations. Definitions only.
use Rattle.std.specs.Prelude.{List, [], ◌∷◌, cond, Float}
use Rattle.std.specs.Float.{binary64}
use Rattle.std.specs.Float.Ieee.{add, mul, div, lt}
use Rattle.float.specs.Arithmetic.{minus_zero, plus_zero, dot_from}
use Rattle.root.specs.Root.{root_of}

-- the products of two vectors summed from −0, in index order, to the end of the shorter
abbrev pub dot_of : List Float → List Float → Float
dot_of a b = dot_from minus_zero a b

-- the root of the sum of the squares from −0
abbrev pub norm_of : List Float → Float
norm_of v = root_of (dot_from minus_zero v v)

-- each element divided by n
abbrev pub divided_by : Float → List Float → List Float
divided_by n [] = []
divided_by n (x ∷ xs) = div binary64 x n ∷ divided_by n xs

-- the vector divided by its norm; unchanged where the norm is 0 or NaN
unfoldable pub unit_vector : List Float → List Float
unit_vector v = cond (lt plus_zero (norm_of v)) (divided_by (norm_of v) v) v

-- row + w·x, element by element, to the end of the shorter; what the row has past that stays
abbrev pub add_scaled : Float → List Float → List Float → List Float
add_scaled w [] xs = []
add_scaled w (r ∷ rs) [] = r ∷ rs
add_scaled w (r ∷ rs) (x ∷ xs) = add binary64 r (mul binary64 w x) ∷ add_scaled w rs xs
