-- Laws of the definitions of specs/Vectors.antt, one for a turn of the loop that computes each and one for its end. A dot product goes by what is left of the
-- list, a store by what is done beside what is left. Assumes nothing.
use mathlib.Core.Path.{◌≡◌, refl, ap, sym}
use mathlib.Core.List.{List, [], ◌∷◌, ◌++◌, append_assoc, append-nil}
use mathlib.Core.Bool.{Bool, true, false, cond}
use mathlib.Core.Logic.{⊎_elim}
use Prim.Native.Nat.{ℕ, suc, ◌+◌, ◌*◌, ◌≤◌, ◌<◌, min}
use native.Mathlib.Nat.{mul_comm}
use native.Mathlib.Numerals.{add-one}
use native.Mathlib.Omega.{arith}
use lib.ListN.{length, get_or, take, drop, set, drop_of_length-le, take-append-drop}
use lib.Seq.{drop-cons, take-suc-set, drop-set-lt, take_all}
use lib.Ieee.{Float, nan, inf, fin, unlike, up, down, binary64, add, mul, div, lt}
use Rattle.float.specs.Arithmetic.{plus_zero, dot_from}
use Rattle.float.proofs.Order.{lt_or_ge}
use Rattle.vector.specs.Vectors.{norm_of, divided_by, unit_vector, add_scaled}

-- dot products
dot_nil : (s : Float) (a : List Float) → dot_from s a [] ≡ s
dot_nil s [] = refl
dot_nil s (x ∷ a) = refl

module _ (s : Float) (a b : List Float) (j : ℕ) where
  pub dot_turn : j < length a → j < length b
      → dot_from (add binary64 s (mul binary64 (get_or a j nan) (get_or b j nan))) (drop (j + 1) a) (drop (j + 1) b) ≡ dot_from s (drop j a) (drop j b)
  dot_turn ha hb = rw (add-one, drop-cons a j nan, drop-cons b j nan)

  pub dot_end : min (length a) (length b) ≤ j → dot_from s (drop j a) (drop j b) ≡ s
  dot_end h =
      ⊎_elim (λ (l : j < length a). let g : length b ≤ j = omega arith in rw (drop_of_length-le b g) (dot_nil s (drop j a)))
      (λ (g : length a ≤ j). rw (drop_of_length-le a g))
      (lt_or_ge j (length a))

-- products, and so dot products, are the same either way round
unlike_comm : (s t : Bool) → unlike s t ≡ unlike t s
unlike_comm true true = refl
unlike_comm true false = refl
unlike_comm false true = refl
unlike_comm false false = refl

times_comm : (x y : Float) → mul binary64 x y ≡ mul binary64 y x
unfolding mul
times_comm nan nan = refl
times_comm nan (inf t) = refl
times_comm nan (fin t n d) = refl
times_comm (inf s) nan = refl
times_comm (inf s) (inf t) = rw (unlike_comm s t)
times_comm (inf s) (fin t n d) = rw (unlike_comm s t)
times_comm (fin s m e) nan = refl
times_comm (fin s m e) (inf t) = rw (unlike_comm s t)
times_comm (fin s m e) (fin t n d) = rw (unlike_comm s t, mul_comm (m * up e) (n * up d), mul_comm (down e) (down d))

pub dot_comm : (s : Float) (a b : List Float) → dot_from s a b ≡ dot_from s b a
dot_comm s [] b = sym (dot_nil s b)
dot_comm s (x ∷ a) [] = refl
dot_comm s (x ∷ a) (y ∷ b) = rw (times_comm x y) (dot_comm (add binary64 s (mul binary64 y x)) a b)

-- a list divided by n in place
module _ (n : Float) (l : List Float) (j : ℕ) where
  pub divide_by_turn : j < length l
      → take (j + 1) (set l j (div binary64 (get_or l j nan) n)) ++ divided_by n (drop (j + 1) (set l j (div binary64 (get_or l j nan) n)))
      ≡ take j l ++ divided_by n (drop j l)
  divide_by_turn h =
      let g : j < suc j = omega arith in
      rw (add-one, take-suc-set, drop-set-lt, drop-cons l j nan, append_assoc)

  pub divide_by_end : length l ≤ j → take j l ++ divided_by n (drop j l) ≡ l
  divide_by_end h = rw (drop_of_length-le l h, take_all, append-nil)

pub divide_length : (n : Float) (l : List Float) → length (divided_by n l) ≡ length l
divide_length n [] = refl
divide_length n (x ∷ l) = ap suc (divide_length n l)

-- a unit vector is as long as the vector
either_length : (t : Bool) (n : Float) (v : List Float) → length (cond t (divided_by n v) v) ≡ length v
either_length true n v = divide_length n v
either_length false n v = refl

pub unit_length : (v : List Float) → length (unit_vector v) ≡ length v
unfolding unit_vector
unit_length v = either_length (lt plus_zero (norm_of v)) (norm_of v) v

-- a list with w times another added
add_scaled_nil : (w : Float) (l : List Float) → add_scaled w l [] ≡ l
add_scaled_nil w [] = refl
add_scaled_nil w (r ∷ l) = refl

module _ (w : Float) (l x : List Float) (j : ℕ) where
  pub add_scaled_turn : j < length l → j < length x
      → take (j + 1) (set l j (add binary64 (get_or l j nan) (mul binary64 w (get_or x j nan))))
      ++ add_scaled w (drop (j + 1) (set l j (add binary64 (get_or l j nan) (mul binary64 w (get_or x j nan))))) (drop (j + 1) x)
      ≡ take j l ++ add_scaled w (drop j l) (drop j x)
  add_scaled_turn hl hx =
      let h : j < suc j = omega arith in
      rw (add-one, take-suc-set, drop-set-lt, drop-cons l j nan, drop-cons x j nan, append_assoc)

  pub add_scaled_end : min (length l) (length x) ≤ j → take j l ++ add_scaled w (drop j l) (drop j x) ≡ l
  add_scaled_end h =
      ⊎_elim (λ (h' : j < length l). let g : length x ≤ j = omega arith in rw (drop_of_length-le x g, add_scaled_nil, take-append-drop))
      (λ (g : length l ≤ j). rw (drop_of_length-le l g, take_all, append-nil))
      (lt_or_ge j (length l))

pub add_scaled_length : (w : Float) (l x : List Float) → length (add_scaled w l x) ≡ length l
add_scaled_length w [] x = refl
add_scaled_length w (r ∷ l) [] = refl
add_scaled_length w (r ∷ l) (y ∷ x) = ap suc (add_scaled_length w l x)
