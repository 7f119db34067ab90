-- The place of the greatest is the first of the greatest. By recursion on the elements looked at: what takes the place is above the one
-- held, so above all before it that are numbers. Assumes nothing.
use mathlib.Core.Path.{◌≡◌, refl, sym, subst}
use mathlib.Core.List.{List}
use mathlib.Core.Bool.{Bool, true, false, not, cond}
use mathlib.Core.Logic.{◌⊎◌, inl, inr, ⊎_elim}
use Prim.Native.Nat.{ℕ, zero, suc, ◌<◌}
use native.Mathlib.Omega.{arith}
use lib.Dec.{T, T_not, not_T}
use lib.ListN.{length, get_or}
use lib.Ieee.{Float, nan, lt, is_nan}
use Rattle.float.proofs.Order.{lt_or_ge, lt_irrefl, lt_trans, lt_splits}
use Rattle.pick.specs.Places.{above, place_up_to, argmax_up_to, argmax_of}
use Rattle.pick.specs.First.{FirstOfGreatest}
use Rattle.pick.proofs.Places.{place_one}

number_or_nan : (b : Bool) → T b ⊎ T (not b)
number_or_nan true = inl tt
number_or_nan false = inr tt

module _ (f : ℕ → Float) (n best : ℕ) (h : FirstOfGreatest f n best) where
  -- the next one is above the best so far
  taken : T (lt (f best) (f n)) → FirstOfGreatest f (suc n) n
  taken above =
      let none : (j : ℕ) → j < n → T (lt (f best) (f j)) → ⊥ = λ j g. T_not (lt (f best) (f j)) (h.none_above j g) in
      record {
        within = omega arith;
        none_above = λ j g. not_T (lt (f n) (f j))
            (λ t. ⊎_elim (λ l. none j l (lt_trans (f best) (f n) (f j) above t))
            (λ l. lt_irrefl (f n) (subst (λ (i : ℕ). T (lt (f n) (f i))) (omega arith) t)) (lt_or_ge j n));
        before_below = λ j g. ⊎_elim inl
            (λ p. ⊎_elim (λ t. absurd (none j g t)) inr (lt_splits (f best) (f j) (f n) p above)) (number_or_nan (is_nan (f j)));
      }

  -- it is not
  left : T (not (lt (f best) (f n))) → FirstOfGreatest f (suc n) best
  left below =
      record {
        within = omega (arith, h.within);
        none_above = λ j g. ⊎_elim (h.none_above j)
            (λ l. subst (λ (i : ℕ). T (not (lt (f best) (f i)))) (omega arith) below) (lt_or_ge j n);
        before_below = h.before_below;
      }

  next : (t : Bool) → lt (f best) (f n) ≡ t → FirstOfGreatest f (suc n) (cond t n best)
  next true e = taken (subst T (sym e) tt)
  next false e = left (subst (λ (t : Bool). T (not t)) (sym e) tt)

module _ (v : List Float) where
  abbrev at : ℕ → Float
  at j = get_or v j nan

  -- of the first n + 1
  first_to : (n : ℕ) → FirstOfGreatest at (suc n) (argmax_up_to v (suc n))
  unfolding place_up_to
  first_to zero =
      subst (FirstOfGreatest at 1) (sym (place_one above v))
      (record {
        within = omega arith;
        none_above = λ j g. not_T (lt (at 0) (at j)) (λ t. lt_irrefl (at 0) (subst (λ (i : ℕ). T (lt (at 0) (at i))) (omega arith) t));
        before_below = λ j g. absurd (omega arith);
      })
  first_to (suc n) = next at (suc n) (argmax_up_to v (suc n)) (first_to n) _ refl

  first_of : (n : ℕ) → 0 < n → FirstOfGreatest at n (argmax_up_to v n)
  first_of zero h = absurd (omega arith)
  first_of (suc n) h = first_to n

  pub argmax_first : 0 < length v → FirstOfGreatest at (length v) (argmax_of v)
  argmax_first h = first_of (length v) h

-- it goes by the values alone
pub first_same : (f g : ℕ → Float) (n at : ℕ) → ((j : ℕ) → j < n → f j ≡ g j) → FirstOfGreatest f n at → FirstOfGreatest g n at
first_same f g n at same h =
    let here = same at h.within in
    record {
      within = h.within;
      none_above = λ j l. subst (λ (x : Float). T (not (lt (g at) x))) (same j l)
          (subst (λ (x : Float). T (not (lt x (f j)))) here (h.none_above j l));
      before_below = λ j l.
          let there = same j (omega (arith, h.within)) in
          ⊎_elim (λ p. inl (subst (λ (x : Float). T (is_nan x)) there p))
          (λ p. inr (subst (λ (x : Float). T (lt (g j) x)) here (subst (λ (x : Float). T (lt x (f at))) there p))) (h.before_below j l);
    }
