-- vmf.rs, 'shared helpers': the place of the greatest and of the least of a list of f64. Definitions only.
use Rattle.std.specs.Prelude.{◌≡◌, List, Bool, cond, ℕ, zero, suc, length, get_or, Float}
use Rattle.std.specs.Float.{nan}
use Rattle.std.specs.Float.Ieee.{lt}
use Rattle.pick.specs.declared.Best.{Best}

-- a closure's answers are this test's
abbrev pub Tests : (Float → Float → Bool → Type 0) → (Float → Float → Bool) → Type 0
Tests answers test = (x y : Float) (t : Bool) → answers x y t → t ≡ test x y

-- Of the elements looked at the best, which is the one that passes all others, its place, and the next. Element v at
-- place i becomes the best where it passes it, and that the next; else the next, where it passes that.
unfoldable pub best_with : (passes : Float → Float → Bool) → Best → ℕ → Float → Best
best_with passes b i v =
    cond (passes v b.value) (record { index = i; value = v; next = b.value })
    (cond (passes v b.next) (record { index = b.index; value = b.value; next = v }) b)

-- The place held among the first n elements, where an element takes the place only if it passes the one held.
module _ (passes : Float → Float → Bool) (v : List Float) where
  abbrev pub next_place : (best i : ℕ) → ℕ
  next_place best i = cond (passes (get_or v i nan) (get_or v best nan)) i best

  unfoldable pub place_up_to : (n : ℕ) → ℕ
  place_up_to zero = 0
  place_up_to (suc i) = next_place (place_up_to i) i

  abbrev pub place_of : ℕ
  place_of = place_up_to (length v)

-- The place of the greatest, the first of equals: an element takes the place only where it is above the one held, and
-- a comparison with a NaN is false. And the place of the least, likewise.
abbrev pub above : Float → Float → Bool
above x held = lt held x

abbrev pub argmax_up_to : List Float → (n : ℕ) → ℕ
argmax_up_to = place_up_to above

abbrev pub argmax_of : List Float → ℕ
argmax_of = place_of above

abbrev pub argmin_up_to : List Float → (n : ℕ) → ℕ
argmin_up_to = place_up_to lt

abbrev pub argmin_of : List Float → ℕ
argmin_of = place_of lt
