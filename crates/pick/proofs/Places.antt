-- Laws of the definitions of specs/Places.antt and specs/Pick.antt, one for a turn of the loop that computes each and one for its end. A
-- pick goes by what is left of the list, a place by the turns done; either lies within the list. Assumes nothing.
use mathlib.Core.Path.{◌≡◌, refl, sym, subst}
use mathlib.Core.List.{List, [], ◌∷◌}
use mathlib.Core.Bool.{Bool, true, false, not, ◌||◌, cond}
use mathlib.Core.Logic.{⊎_elim}
use Prim.Native.Nat.{ℕ, zero, suc, ◌+◌, ◌-◌, ◌%◌, ◌≤◌, ◌<◌, max}
use native.Mathlib.Nat.{mod-lt}
use native.Mathlib.Numerals.{add-one}
use native.Mathlib.Omega.{arith}
use lib.Dec.{T}
use lib.ListN.{length, get_or, drop, drop_of_length-le}
use lib.Seq.{drop-cons}
use lib.Ieee.{Float, nan, binary64, sub, mul, lt, eq, le, is_nan}
use Rattle.float.proofs.Order.{lt_or_ge, le_trans, le_of_nlt}
use Rattle.float.proofs.Interval.{le_refl}
use Rattle.float.specs.Arithmetic.{minus_zero, plus_zero, sum_from}
use Rattle.rng.specs.SplitMix.{step_of, mix_of, unit_of}
use Rattle.pick.specs.Places.{place_up_to, place_of, above, argmax_of, argmin_up_to, argmin_of}
use Rattle.pick.specs.Pick.{pick_from, pick_of}

-- what holds of both holds of either
pub either : {A : Type 0} (P : A → Type 0) (b : Bool) (x y : A) → P x → P y → P (cond b x y)
either P true x y h g = h
either P false x y h g = g

-- the place held: after one element, after a turn by the way that the test went, and at the end of a loop that starts at place 1; and it
-- lies in the vector, if that is not empty
module _ (test : Float → Float → Bool) where
  pub place_one : (v : List Float) → place_up_to test v 1 ≡ 0
  unfolding place_up_to
  place_one v = either (λ (i : ℕ). i ≡ 0) (test (get_or v 0 nan) (get_or v 0 nan)) 0 0 refl refl

  pub place_turn : (v : List Float) (best best' i : ℕ) (t : Bool) → best ≡ place_up_to test v i
      → t ≡ test (get_or v i nan) (get_or v best nan) → best' ≡ cond t i best → best' ≡ place_up_to test v (i + 1)
  unfolding place_up_to
  place_turn v best best' i t e g h = rw (add-one, ← e, ← g) h

  pub place_end : (v : List Float) (i : ℕ) → i ≡ max (length v) 1 → place_up_to test v i ≡ place_of test v
  unfolding place_up_to
  place_end [] i e = let f : i ≡ 1 = omega arith in rw f (place_one [])
  place_end (x ∷ v) i e = let f : i ≡ suc (length v) = omega arith in rw f

  place_within : (v : List Float) (n : ℕ) → 0 < length v → n ≤ length v → place_up_to test v n < length v
  unfolding place_up_to
  place_within v zero h g = h
  place_within v (suc i) h g =
      either (λ (p : ℕ). p < length v) (test (get_or v i nan) (get_or v (place_up_to test v i) nan)) i (place_up_to test v i) g
      (place_within v i h (omega arith))

  pub place_below : (v : List Float) → 0 < length v → place_of test v < length v
  place_below v h = place_within v (length v) h (omega arith)

pub argmax_below : (v : List Float) → 0 < length v → argmax_of v < length v
argmax_below = place_below above

pub argmin_below : (v : List Float) → 0 < length v → argmin_of v < length v
argmin_below = place_below lt

-- the element at the place of the least is at most each, where all are numbers
module _ (v : List Float) (numbers : (i : ℕ) → i < length v → T (not (is_nan (get_or v i nan)))) where
  least_by : (t : Bool) (n b j : ℕ) → lt (get_or v n nan) (get_or v b nan) ≡ t → n < length v → b < length v → j ≤ n
      → (j < n → T (le (get_or v b nan) (get_or v j nan))) → T (le (get_or v (cond t n b) nan) (get_or v j nan))
  unfolding le
  least_by true n b j e hn hb l h =
      ⊎_elim
      (λ (g : j < n).
      le_trans (get_or v n nan) (get_or v b nan) (get_or v j nan)
      (subst (λ (t : Bool). T (t || eq (get_or v n nan) (get_or v b nan))) (sym e) tt) (h g))
      (λ (g : n ≤ j).
      let q : n ≡ j = omega arith in
      subst (λ (z : ℕ). T (le (get_or v n nan) (get_or v z nan))) q (le_refl (get_or v n nan) (numbers n hn)))
      (lt_or_ge j n)
  least_by false n b j e hn hb l h =
      ⊎_elim h
      (λ (g : n ≤ j).
      let q : n ≡ j = omega arith in
      subst (λ (z : ℕ). T (le (get_or v b nan) (get_or v z nan))) q
      (le_of_nlt (get_or v n nan) (get_or v b nan) (numbers n hn) (numbers b hb) (subst (λ (t : Bool). T (not t)) (sym e) tt)))
      (lt_or_ge j n)

  least_to : (n : ℕ) → n ≤ length v → (j : ℕ) → j < n → T (le (get_or v (argmin_up_to v n) nan) (get_or v j nan))
  unfolding place_up_to
  least_to zero l j g = absurd (omega arith)
  least_to (suc n) l j g =
      let b = argmin_up_to v n in
      least_by (lt (get_or v n nan) (get_or v b nan)) n b j refl l (place_within lt v n (omega arith) (omega arith)) (omega arith)
      (least_to n (omega arith) j)

  pub argmin_least : (j : ℕ) → j < length v → T (le (get_or v (argmin_of v) nan) (get_or v j nan))
  argmin_least j h = least_to (length v) (omega arith) j h

-- the pick: at the place sought, past another, and past all
module _ (t : Float) (w : List Float) (i : ℕ) where
  pub pick_found : i < length w → le (sub binary64 t (get_or w i nan)) plus_zero ≡ true → i ≡ pick_from t i (drop i w)
  unfolding pick_from
  pick_found h e = rw (drop-cons w i nan, e)

  pub pick_turn : i < length w → le (sub binary64 t (get_or w i nan)) plus_zero ≡ false
      → pick_from (sub binary64 t (get_or w i nan)) (i + 1) (drop (i + 1) w) ≡ pick_from t i (drop i w)
  unfolding pick_from
  pick_turn h e = rw (add-one, drop-cons w i nan, e)

  pub pick_end : length w ≤ i → i - 1 ≡ pick_from t i (drop i w)
  unfolding pick_from
  pick_end h = rw (drop_of_length-le w h)

-- the place picked lies in the list, if that is not empty
pick_within : (t : Float) (i : ℕ) (ws : List Float) → 0 < i + length ws → pick_from t i ws < i + length ws
unfolding pick_from
pick_within t i [] h = omega arith
pick_within t i (w ∷ ws) h =
    either (λ (p : ℕ). p < i + suc (length ws)) (le (sub binary64 t w) plus_zero) i (pick_from (sub binary64 t w) (suc i) ws) (omega arith)
    (omega (arith, pick_within (sub binary64 t w) (suc i) ws (omega arith)))

pub pick_below : (ws : List Float) (generator : ℕ) → 0 < length ws → (pick_of ws generator).index < length ws
pick_below ws generator h =
    let out = mix_of (step_of generator) in
    let sum = sum_from minus_zero ws in
    let t = mul binary64 (unit_of out) sum in
    let e : max (length ws) 1 ≡ length ws = omega arith in
    either (λ (p : ℕ). p < length ws) (le sum plus_zero) (out % max (length ws) 1) (pick_from t 0 ws) (rw e (mod-lt out h))
    (omega (arith, pick_within t 0 ws (omega arith)))
