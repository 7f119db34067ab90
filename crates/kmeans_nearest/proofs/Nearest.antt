-- Laws of the definitions of specs/Nearest.antt: a block of centres more, and the best centre is one of those
-- looked at. By recursion on the turns done. Assumes nothing.
use mathlib.Core.Path.{◌≡◌, ap, ◌∙◌}
use mathlib.Core.List.{List, [], ◌∷◌, ◌++◌}
use mathlib.Core.Bool.{Bool, true, false, cond}
use Prim.Native.Nat.{ℕ, zero, suc, ◌+◌, ◌-◌, ◌<◌}
use native.Mathlib.Omega.{arith}
use lib.ListN.{length, get_or, drop}
use lib.Ieee.{Float, nan, inf, lt}
use Rattle.rows.specs.Rows.{row_of}
use Rattle.rows.specs.Tabulate.{tabulate}
use Rattle.rows.proofs.Tabulate.{tabulate_length, tabulate_at, tabulate_tail, tabulate_same}
use Rattle.vector.specs.Vectors.{dot_of}
use Rattle.kmeans_nearest.specs.Nearest.{better_of, best_to}
use Rattle.kmeans_nearest.specs.Blocks.{row_dots, with_dots}
use Rattle.pick.specs.Places.{best_with}
use Rattle.pick.specs.declared.Best.{Best}

chosen_below : (s t : Bool) (x y z : Best) (n : ℕ) → x.index < n → y.index < n → z.index < n → (cond s x (cond t y z)).index < n
chosen_below true t x y z n hx hy hz = hx
chosen_below false true x y z n hx hy hz = hy
chosen_below false false x y z n hx hy hz = hz

-- one dot more
pub with_more : (b : Best) (c : ℕ) (vs : List Float) (v : Float)
    → with_dots b c (vs ++ (v ∷ [])) ≡ better_of (with_dots b c vs) (c + length vs) v
with_more b c [] v = let e : c + 0 ≡ c = omega arith in rw e
with_more b c (w ∷ vs) v =
    let e : suc c + length vs ≡ c + suc (length vs) = omega arith in
    with_more (better_of b c w) (suc c) vs v ∙ rw e

module _ (x centers : List Float) (d : ℕ) where
  -- after the best of centres 0 to c, n more
  best_on : (c n : ℕ) → with_dots (best_to x centers d c) (c + 1) (row_dots x centers d (c + 1) n) ≡ best_to x centers d (c + n)
  unfolding best_to tabulate
  best_on c zero = let e : c + 0 ≡ c = omega arith in rw e
  best_on c (suc n) =
      let dots = row_dots x centers d (c + 1) n in
      let v = dot_of x (row_of centers d (c + 1 + n)) in
      let next : c + 1 + n ≡ suc (c + n) = omega arith in
      let last : c + suc n ≡ suc (c + n) = omega arith in
      let length-dots : length dots ≡ n = tabulate_length (λ (e : ℕ). dot_of x (row_of centers d (c + 1 + e))) n in
      with_more (best_to x centers d c) (c + 1) dots v ∙ rw (length-dots, next, last, best_on c n)

  -- n centres from c on, whose dots are f
  pub best_block : (c n : ℕ) (b b' : Best) (f : List Float) → 0 < c → b ≡ best_to x centers d (c - 1) → f ≡ row_dots x centers d c n
      → b' ≡ with_dots b c f → b' ≡ best_to x centers d (c + n - 1)
  best_block c n b b' f h e dots g =
      let p : c ≡ c - 1 + 1 = omega arith in
      let q : c - 1 + n ≡ c + n - 1 = omega arith in
      g ∙ rw (dots, e) (ap (λ (i : ℕ). with_dots (best_to x centers d (c - 1)) i (row_dots x centers d i n)) p) ∙ best_on (c - 1) n
      ∙ ap (best_to x centers d) q

  -- the first n centres, whose dots are f
  pub best_first : (n : ℕ) (b' : Best) (f : List Float) → 0 < n → f ≡ row_dots x centers d 0 n
      → b' ≡ with_dots (record { index = 0; value = get_or f 0 nan; next = inf true }) 1 (drop 1 f) → b' ≡ best_to x centers d (n - 1)
  unfolding best_to
  best_first zero b' f h dots g = absurd (omega arith)
  best_first (suc n) b' f h dots g =
      let dot = λ (e : ℕ). dot_of x (row_of centers d (0 + e)) in
      let head : get_or f 0 nan ≡ dot 0 = rw dots (tabulate_at dot (suc n) 0 nan (omega arith)) in
      let tail : drop 1 f ≡ row_dots x centers d 1 n =
      rw dots (tabulate_tail dot n
      ∙ tabulate_same (λ (i : ℕ). dot (suc i)) _ n (λ i l. let e : 0 + suc i ≡ 1 + i = omega arith in rw e)) in
      let end : 0 + n ≡ suc n - 1 = omega arith in
      g ∙ rw (head, tail) (best_on 0 n) ∙ ap (best_to x centers d) end

  -- the best of the centres 0 to c is one of them
  pub best_below : (c n : ℕ) → c < n → (best_to x centers d c).index < n
  unfolding best_to best_with
  best_below zero n h = h
  best_below (suc c) n h =
      let b = best_to x centers d c in
      let v = dot_of x (row_of centers d (suc c)) in
      let below : b.index < n = best_below c n (omega arith) in
      chosen_below (lt b.value v) (lt b.next v) _ _ _ n h below below
