-- Lists of any elements that are filled or copied: one law for a turn of the loop, one for its end. What is done is a front of
-- what is wanted, or stands before what is still held. Assumes nothing.
use mathlib.Core.Path.{◌≡◌, ap, sym, ◌∙◌}
use mathlib.Core.List.{List, [], ◌∷◌, ◌++◌, append_assoc, append-nil}
use Prim.Native.Nat.{ℕ, suc, ◌+◌, ◌≤◌, ◌<◌}
use native.Mathlib.Numerals.{add-one}
use native.Mathlib.Omega.{arith}
use lib.ListN.{length, get_or, take, drop, set, replicate, replicate-append-replicate, drop_of_length-le}
use lib.Seq.{take-suc, take-suc-set, take_all, length-take-le, drop-cons, set_at, get_or_at}

module _ {A : Type 0} where
  pub fill_turn : (s : List A) (j : ℕ) (x : A) → j < length s → take j s ≡ replicate j x → take (j + 1) (set s j x) ≡ replicate (j + 1) x
  fill_turn s j x h e =
      let t : take (j + 1) (set s j x) ≡ take j s ++ (x ∷ []) = rw add-one (take-suc-set s j x h) in
      t ∙ ap (λ (l : List A). l ++ (x ∷ [])) e ∙ replicate-append-replicate j 1 x

  pub take_end : (s t : List A) (j : ℕ) → length s ≤ j → take j s ≡ t → s ≡ t
  take_end s t j h e = sym (take_all j s h) ∙ e

-- what is done, before what was held from place i on: one place more, the place after it, and the end
module _ {A : Type 0} (z : A) (p l : List A) (i : ℕ) (e : length p ≡ i) where
  pub front_turn : (v : A) → i < length l → set (p ++ drop i l) i v ≡ (p ++ (v ∷ [])) ++ drop (i + 1) l
  front_turn v h = rw (add-one, drop-cons l i z, append_assoc) (set_at p (get_or l i z) (drop (suc i) l) v i e)

  pub front_next : i < length l → get_or (p ++ drop i l) i z ≡ get_or l i z
  front_next h = rw (drop-cons l i z) (get_or_at p (get_or l i z) (drop (suc i) l) z i e)

-- the first i elements of s, before what was held: one element more
pub copied_turn : {A : Type 0} (t s l : List A) (i k : ℕ) (v z : A) → t ≡ take i s ++ drop i l → k ≡ i → v ≡ get_or s i z
    → i < length s → i < length l → set t k v ≡ take (i + 1) s ++ drop (i + 1) l
copied_turn t s l i k v z e n x hs hl =
    rw (e, n, x) (front_turn z (take i s) l i (length-take-le i s (omega arith)) (get_or s i z) hl ∙ rw (add-one, take-suc s i z))

pub front_end : {A : Type 0} (p l : List A) (n : ℕ) → length l ≡ n → p ++ drop n l ≡ p
front_end p l n e = let h : length l ≤ n = omega arith in rw (drop_of_length-le l h, append-nil)
