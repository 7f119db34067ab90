-- Rows whose elements are all within a bound: their parts, a weighted row added to another, and a row divided by its norm, which lies
-- within ±2. Assumes nothing.
use mathlib.Core.Path.{◌≡◌, refl, sym, subst}
use mathlib.Core.List.{List, [], ◌∷◌, ◌++◌}
use mathlib.Core.Bool.{Bool, true, false, cond}
use Prim.Native.Nat.{ℕ, zero, suc, ◌+◌, ◌*◌, ◌≤◌, ◌<◌, min}
use native.Mathlib.Omega.{arith}
use lib.Dec.{lit<, lit≤}
use lib.ListN.{length, get_or, take, drop, replicate, length-take}
use lib.Ieee.{Float, nan, binary64, mul, div, lt}
use Rattle.float.specs.Arithmetic.{plus_zero, minus_zero, dot_from}
use Rattle.root.specs.Root.{root_of}
use Rattle.rows.specs.Rows.{row_of, put_part}
use Rattle.float.proofs.Bound.{Within, Held, held_whole, held_power}
use Rattle.float.proofs.Ranges.{All, within_more, mul_within, add_within}
use Rattle.float.proofs.Units.{squares_from, squares_each, squares_start}
use Rattle.root.proofs.RootUnit.{each_within}
use Rattle.vector.specs.Vectors.{norm_of, divided_by, unit_vector, add_scaled}

-- ---- parts of a list of which every element has a property
module _ (R : Float → Type 0) where
  all_take : (n : ℕ) (xs : List Float) → All R xs → All R (take n xs)
  all_take zero xs h = tt
  all_take (suc n) [] h = tt
  all_take (suc n) (x ∷ xs) h = (h.0, all_take n xs h.1)

  all_drop : (n : ℕ) (xs : List Float) → All R xs → All R (drop n xs)
  all_drop zero xs h = h
  all_drop (suc n) [] h = tt
  all_drop (suc n) (x ∷ xs) h = all_drop n xs h.1

  pub all_append : (xs ys : List Float) → All R xs → All R ys → All R (xs ++ ys)
  all_append [] ys h k = k
  all_append (x ∷ xs) ys h k = (h.0, all_append xs ys h.1 k)

  pub all_put : (l : List Float) (at n : ℕ) (r : List Float) → All R l → All R r → All R (put_part l at n r)
  all_put l at n r h k =
      all_append (take at l) (r ++ drop n (drop at l)) (all_take at l h)
      (all_append r (drop n (drop at l)) k (all_drop n (drop at l) (all_drop at l h)))

  pub all_row : (l : List Float) (d c : ℕ) → All R l → All R (row_of l d c)
  all_row l d c h = all_take d (drop (c * d) l) (all_drop (c * d) l h)

  pub all_get : (l : List Float) (i : ℕ) → All R l → i < length l → R (get_or l i nan)
  all_get [] i h g = absurd (omega arith)
  all_get (x ∷ l) zero h g = h.0
  all_get (x ∷ l) (suc i) h g = all_get l i h.1 (omega arith)

  pub all_same : (n : ℕ) (x : Float) → R x → All R (replicate n x)
  all_same zero x h = tt
  all_same (suc n) x h = (h, all_same n x h)

pub all_more : (P R Q : ℕ) (xs : List Float) → P ≤ R → All (Within P Q) xs → All (Within R Q) xs
all_more P R Q [] l h = tt
all_more P R Q (x ∷ xs) l h = (within_more P R Q x l h.0, all_more P R Q xs l h.1)

pub row_length : (l : List Float) (d c : ℕ) → length (row_of l d c) ≤ d
row_length l d c = small d (length (drop (c * d) l)) (length (row_of l d c)) (length-take d (drop (c * d) l))
  where
    small : (d n x : ℕ) → x ≡ min d n → x ≤ d
    small d n x e = omega arith

-- ---- a row within ±B, and w times one within ±2 added: w up to 2^40, all of it below 2^53
pub add_scaled_within : (B : ℕ) (w : Float) (r x : List Float) → B + 2199023255552 ≤ 9007199254740992 → Within 1099511627776 1 w
    → All (Within B 1) r
    → All (Within 2 1) x → All (Within (B + 2199023255552) 1) (add_scaled w r x)
add_scaled_within B w [] x l hw hr hx = tt
add_scaled_within B w (r ∷ rs) [] l hw hr hx = all_more B (B + 2199023255552) 1 (r ∷ rs) (omega arith) hr
add_scaled_within B w (r ∷ rs) (y ∷ ys) l hw hr hx =
    let p : Within 2199023255552 1 (mul binary64 w y) =
    mul_within binary64 1099511627776 1 2 1 w y (lit< tt) (lit< tt) (held_whole binary64 2199023255552 (lit≤ tt)) hw hx.0 in (
      add_within binary64 B 2199023255552 1 r (mul binary64 w y) (lit< tt) (held_whole binary64 (B + 2199023255552) (omega arith))
          hr.0 p,
      add_scaled_within B w rs ys l hw hr.1 hx.1,
    )

-- ---- a row of at most 256 elements within ±2^53, divided by its norm
held_squares : (n : ℕ) → n ≤ 256 → Held binary64 (n * (9007199254740992 * 9007199254740992)) 1
held_squares n h = held_power n 106 (omega arith) (lit≤ tt)

divided_within : (n : Float) (xs : List Float) → All (λ (x : Float). Within 2 1 (div binary64 x n)) xs → All (Within 2 1) (divided_by n xs)
divided_within n [] h = tt
divided_within n (x ∷ xs) h = (h.0, divided_within n xs h.1)

row_divided : (xs : List Float) → length xs ≤ 256 → All (Within 9007199254740992 1) xs → lt plus_zero (norm_of xs) ≡ true
    → All (Within 2 1) (divided_by (norm_of xs) xs)
row_divided [] l h p = tt
row_divided (x ∷ xs) l h p =
    let A : ℕ = 9007199254740992 in
    let q = squares_from plus_zero (x ∷ xs) in
    let e : dot_from minus_zero (x ∷ xs) (x ∷ xs) ≡ q = squares_start A 256 held_squares x xs (lit≤ tt) h.0 in
    let r = squares_each A 256 held_squares (x ∷ xs) l h in
    subst (λ (z : Float). All (Within 2 1) (divided_by (root_of z) (x ∷ xs))) (sym e)
    (divided_within (root_of q) (x ∷ xs)
    (each_within A q (x ∷ xs) r.good (subst (λ (z : Float). lt plus_zero (root_of z) ≡ true) e p) h r.each))

-- or another in its place, where the norm is not above zero
pub normal_within : (xs old : List Float) → length xs ≤ 256 → All (Within 9007199254740992 1) xs → All (Within 2 1) old
    → All (Within 2 1) (cond (lt plus_zero (norm_of xs)) (divided_by (norm_of xs) xs) old)
normal_within xs old l h o = go (lt plus_zero (norm_of xs)) (λ (e : lt plus_zero (norm_of xs) ≡ true). row_divided xs l h e)
  where
    go : (b : Bool) → (b ≡ true → All (Within 2 1) (divided_by (norm_of xs) xs)) → All (Within 2 1) (cond b (divided_by (norm_of xs) xs) old)
    go true f = f refl
    go false f = o

pub unit_within : (x : List Float) → length x ≤ 256 → All (Within 2 1) x → All (Within 2 1) (unit_vector x)
unfolding unit_vector
unit_within x l h = normal_within x x l (all_more 2 9007199254740992 1 x (omega arith) h) h
