-- What the limits of weights and coordinates say as bounds: a weight that passes is within 2^40, a coordinate within ±2, and what is within
-- ±2 passes as a coordinate. Assumes nothing.
use mathlib.Core.Path.{◌≡◌, refl, sym, subst}
use mathlib.Core.List.{List, [], ◌∷◌}
use mathlib.Core.Bool.{Bool, true, false}
use lib.Dec.{T}
use lib.IntN.{pos}
use lib.Ieee.{Float, fin, round, lt, le, neg, of_int}
use lib.Ieee.Bits.{is_true}
use lib.Ieee.Fits.{and_l, and_r, and_i}
use Rattle.float.specs.Arithmetic.{number, plus_zero}
use Rattle.float.proofs.Order.{le_trans}
use Rattle.float.proofs.Bound.{Within}
use Rattle.float.proofs.Interval.{In}
use Rattle.float.proofs.Monotone.{power_in, in_power}
use Rattle.float.proofs.Ranges.{All}
use Rattle.limits.specs.Limits.{weight_ok, coordinate_ok, every}

-- ---- a weight: from 0 to 2^40
most_is : number 1099511627776 ≡ fin false 1 (pos 40)
unfolding of_int round
most_is = refl

weight_within : (w : Float) → T (weight_ok w) → Within 1099511627776 1 w
unfolding le lt
weight_within w h =
    in_power 40 w (
      le_trans (fin true 1 (pos 40)) plus_zero w tt (and_l (le plus_zero w) (le w (number 1099511627776)) h),
      subst (λ (x : Float). T (le w x)) most_is (and_r (le plus_zero w) (le w (number 1099511627776)) h),
    )

-- ---- a coordinate: within ±2
two_is : number 2 ≡ fin false 1 (pos 1)
unfolding of_int round
two_is = refl

coordinate_within : (x : Float) → T (coordinate_ok x) → Within 2 1 x
unfolding neg
coordinate_within x h =
    in_power 1 x
    (subst (λ (y : Float). In (neg y) y x) two_is
    (and_l (le (neg (number 2)) x) (le x (number 2)) h, and_r (le (neg (number 2)) x) (le x (number 2)) h))

within_coordinate : (x : Float) → Within 2 1 x → T (coordinate_ok x)
unfolding neg
within_coordinate x h =
    let t = subst (λ (y : Float). In (neg y) y x) (sym two_is) (power_in 1 x h) in
    and_i (le (neg (number 2)) x) (le x (number 2)) t.0 t.1

-- ---- of every element
module _ (ok : Float → Bool) (R : Float → Type 0) where
  all_of : ((x : Float) → T (ok x) → R x) → (xs : List Float) → T (every ok xs) → All R xs
  all_of f [] h = tt
  all_of f (x ∷ xs) h = (f x (and_l (ok x) (every ok xs) h), all_of f xs (and_r (ok x) (every ok xs) h))

  every_of : ((x : Float) → R x → T (ok x)) → (xs : List Float) → All R xs → T (every ok xs)
  every_of f [] h = tt
  every_of f (x ∷ xs) h = and_i (ok x) (every ok xs) (f x h.0) (every_of f xs h.1)

pub weights_within : (weights : List Float) → every weight_ok weights ≡ true → All (Within 1099511627776 1) weights
weights_within weights e = all_of weight_ok (Within 1099511627776 1) weight_within weights (subst T (sym e) tt)

pub coordinates_within : (coords : List Float) → every coordinate_ok coords ≡ true → All (Within 2 1) coords
coordinates_within coords e = all_of coordinate_ok (Within 2 1) coordinate_within coords (subst T (sym e) tt)

pub within_coordinates : (xs : List Float) → All (Within 2 1) xs → every coordinate_ok xs ≡ true
within_coordinates xs h = is_true (every coordinate_ok xs) (every_of coordinate_ok (Within 2 1) within_coordinate xs h)
