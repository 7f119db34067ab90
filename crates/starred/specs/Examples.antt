-- Document 01, 'Edge examples': the starred ones, as one table of the definitions with one theorem.
-- A row has what a definition gives, and beside it what document 01 says. Each part of the work adds its rows here.
use Rattle.std.specs.Prelude.{◌≡◌, refl, List, [], ◌∷◌, true, false, ℕ, ◌-◌, negsuc, get_or, Float, Some, None}
use Rattle.std.specs.Float.{nan, inf, fin}
use Rattle.std.specs.Float.Ieee.{add, sub, mul, div, neg, lt, le, is_nan, of_int, of_bits, round, size}
use Rattle.float.specs.Arithmetic.{number, plus_zero, minus_zero, max_of, clamp_of}
use Rattle.root.specs.Root.{root_of}
use Rattle.exponential.specs.Exponential.{exp_of}
use Rattle.logarithm.specs.Logarithm.{ln_of}
use Rattle.bessel.specs.Concentration.{estimate_of, kappa_max}
use Rattle.pick.specs.Places.{best_with}
use Rattle.pick.specs.declared.Best.{Best}
use Rattle.kmeans_bounds.specs.Shifts.{shift_lower, shift_upper, slowest_of, slowest_from}
use Rattle.auto_choice.specs.Choice.{Choice, chosen}

-- an answer is one or more values
pub data Value : Type 0 where
  float : Float → Value
  whole : ℕ → Value
  none : Value

pub record Row : Type 0 where
  pub gives : List Value
  pub says : List Value

abbrev row : List Value → List Value → Row
row g s = record { gives = g; says = s }

abbrev one : Value → List Value
one v = v ∷ []

-- 0.5 and 0.25
abbrev half : Float
half = fin false 1 (negsuc 0)

abbrev quarter : Float
quarter = fin false 1 (negsuc 1)

-- the place of the smallest, it, and the next
abbrev slow : ℕ → Float → Float → List Value
slow c p q = whole c ∷ float p ∷ float q ∷ []

abbrev slowest : Best → List Value
slowest b = slow b.index b.value b.next

-- a choice: the number and its score, or nothing; and scores from number lo on
abbrev choice : Choice → List Value
choice None = one none
choice (Some n) = whole n.k ∷ float n.score ∷ []

abbrev scored : List Float → ℕ → ℕ → Float
scored scores lo k = get_or scores (k - lo) nan

unfoldable pub table : List Row
table =
    -- root of 4 is 2; of −0 is −0; of 2^−1074 is 2^−537
    row (one (float (root_of (number 4)))) (one (float (number 2)))
    ∷ row (one (float (root_of minus_zero))) (one (float minus_zero))
    ∷ row (one (float (root_of (fin false 1 (negsuc 1073))))) (one (float (fin false 1 (negsuc 536))))
    -- exp 0 = 1; exp −746 = +0; ln 1 = +0; ln −0 = −infinity
    ∷ row (one (float (exp_of plus_zero))) (one (float (number 1)))
    ∷ row (one (float (exp_of (neg (number 746))))) (one (float plus_zero))
    ∷ row (one (float (ln_of (number 1)))) (one (float plus_zero))
    ∷ row (one (float (ln_of minus_zero))) (one (float (inf true)))
    -- estimate 0.5 at d = 4 is 2.5, at d = 1 is 0.5
    ∷ row (one (float (estimate_of 4 half))) (one (float (fin false 5 (negsuc 0))))
    ∷ row (one (float (estimate_of 1 half))) (one (float half))
    -- cap at d = 3 is 1e4, at d = 4 is 1e6
    ∷ row (one (float (kappa_max 3))) (one (float (number 10000)))
    ∷ row (one (float (kappa_max 4))) (one (float (number 1000000)))
    -- lower shift (0.5, −0.75) is −1; (1, 0) is 0
    ∷ row (one (float (shift_lower half (fin true 3 (negsuc 1))))) (one (float (neg (number 1))))
    ∷ row (one (float (shift_lower (number 1) plus_zero))) (one (float plus_zero))
    -- upper shift (0.5, 0.5) is 1; (0, 1) is 0
    ∷ row (one (float (shift_upper half half))) (one (float (number 1)))
    ∷ row (one (float (shift_upper plus_zero (number 1)))) (one (float plus_zero))
    -- two smallest of 0.5, 0.5, 0.25: index 2, 0.25, 0.5; of 0.5 alone: index 0, 0.5, +infinity
    ∷ row (slowest (slowest_of (half ∷ half ∷ quarter ∷ []))) (slow 2 quarter half)
    ∷ row (slowest (slowest_of (half ∷ []))) (slow 0 half (inf false))
    -- scores 3, NaN, 1, 1 from k_lo 2 choose 4; NaN, +infinity choose none
    ∷ row (choice (chosen (scored (number 3 ∷ nan ∷ number 1 ∷ number 1 ∷ []) 2) 2 4)) (whole 4 ∷ float (number 1) ∷ [])
    ∷ row (choice (chosen (scored (nan ∷ inf false ∷ []) 1) 1 2)) (one none)
    ∷ []

abbrev all_give : List Row → List (List Value)
all_give [] = []
all_give (r ∷ rs) = r.gives ∷ all_give rs

abbrev all_say : List Row → List (List Value)
all_say [] = []
all_say (r ∷ rs) = r.says ∷ all_say rs

-- every definition gives what document 01 says
pub examples : all_give table ≡ all_say table
unfolding table root_of exp_of ln_of estimate_of shift_lower shift_upper slowest_from best_with chosen max_of clamp_of
    add sub mul div neg lt le is_nan of_int of_bits round size
examples = refl
