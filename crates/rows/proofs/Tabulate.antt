-- Laws of the list f 0, .. f (n − 1): its length, one value more, the value at a place, a list that has the values, the values after the first, and functions that agree. Assumes
-- nothing.
use mathlib.Core.Path.{◌≡◌, refl, ap, sym, ◌∙◌}
use mathlib.Core.List.{List, [], ◌∷◌, ◌++◌}
use mathlib.Core.Bool.{Bool, true, false, not}
use Prim.Native.Nat.{ℕ, zero, suc, ◌+◌, ◌<◌, ◌≤◌}
use native.Mathlib.Numerals.{add-one}
use native.Mathlib.Omega.{arith}
use lib.Dec.{T, ltb, ltb→lt, nltb→le}
use lib.ListN.{length, get_or, drop, set, length-append, get_or-append}
use lib.Seq.{get_or_at, drop-append-le, ext_get_or}
use Rattle.rows.specs.Tabulate.{tabulate}
use Rattle.rows.proofs.Fills.{front_turn, front_next}

module _ {A : Type 0} (f : ℕ → A) where
  pub tabulate_length : (n : ℕ) → length (tabulate f n) ≡ n
  unfolding tabulate
  tabulate_length zero = refl
  tabulate_length (suc n) = length-append (tabulate f n) (f n ∷ []) ∙ omega (arith, tabulate_length n)

  pub tabulate_turn : (i : ℕ) (v : A) → v ≡ f i → tabulate f i ++ (v ∷ []) ≡ tabulate f (i + 1)
  unfolding tabulate
  tabulate_turn i v e = rw (add-one, e)

  -- a list whose first i elements are the values: one more, the element after them, and all
  pub tabulated_turn : (l : List A) (i : ℕ) (v z : A) → i < length l → v ≡ f i
      → set (tabulate f i ++ drop i l) i v ≡ tabulate f (i + 1) ++ drop (i + 1) l
  tabulated_turn l i v z h e =
      front_turn z (tabulate f i) l i (tabulate_length i) v h ∙ ap (λ (p : List A). p ++ drop (i + 1) l) (tabulate_turn i v e)

  pub tabulated_next : (l : List A) (i : ℕ) (z : A) → i < length l → get_or (tabulate f i ++ drop i l) i z ≡ get_or l i z
  tabulated_next l i z h = front_next z (tabulate f i) l i (tabulate_length i) h

  -- the value at place i, by whether that is the last
  at_by : (n i : ℕ) (z : A) (t : Bool) → (T t → i < n) → (T (not t) → n ≤ i) → i < suc n → (i < n → get_or (tabulate f n) i z ≡ f i)
      → get_or (tabulate f n ++ (f n ∷ [])) i z ≡ f i
  at_by n i z true before last h r =
      get_or-append (tabulate f n) (f n ∷ []) z i (omega (arith, before tt, tabulate_length n)) ∙ r (before tt)
  at_by n i z false before last h r =
      let e : i ≡ n = omega (arith, last tt) in
      rw e (get_or_at (tabulate f n) (f n) [] z n (tabulate_length n))

  pub tabulate_at : (n i : ℕ) (z : A) → i < n → get_or (tabulate f n) i z ≡ f i
  unfolding tabulate
  tabulate_at zero i z h = absurd (omega arith)
  tabulate_at (suc n) i z h = at_by n i z (ltb i n) (ltb→lt i n) (nltb→le i n) h (tabulate_at n i z)

  -- a list of n elements that are the values
  pub tabulate_is : (l : List A) (n : ℕ) (z : A) → length l ≡ n → ((i : ℕ) → i < n → get_or l i z ≡ f i) → l ≡ tabulate f n
  tabulate_is l n z e h =
      ext_get_or z l (tabulate f n) (e ∙ sym (tabulate_length n))
      (λ i g. let b : i < n = omega arith in h i b ∙ sym (tabulate_at n i z b))

  -- what follows the first
  pub tabulate_tail : (n : ℕ) → drop 1 (tabulate f (suc n)) ≡ tabulate (λ i. f (suc i)) n
  unfolding tabulate
  tabulate_tail zero = refl
  tabulate_tail (suc n) =
      drop-append-le 1 (tabulate f (suc n)) (f (suc n) ∷ []) (omega (arith, tabulate_length (suc n)))
      ∙ ap (λ (l : List A). l ++ (f (suc n) ∷ [])) (tabulate_tail n)

pub tabulate_same : {A : Type 0} (f g : ℕ → A) (n : ℕ) → ((i : ℕ) → i < n → f i ≡ g i) → tabulate f n ≡ tabulate g n
unfolding tabulate
tabulate_same f g zero h = refl
tabulate_same f g (suc n) h =
    let last : f n ≡ g n = h n (omega arith) in
    rw (last, tabulate_same f g n (λ i l. h i (omega arith)))
