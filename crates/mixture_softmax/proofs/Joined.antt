-- Laws of rows joined and of leaves weighed (specs/Softmax.antt), by the number of rows. Assumes nothing.
use mathlib.Core.Path.{◌≡◌, refl, sym, ap, ◌∙◌}
use mathlib.Core.List.{List, ◌++◌, map, map-append, append_assoc, append-nil}
use mathlib.Core.Logic.{⊎_elim}
use Prim.Native.Nat.{ℕ, zero, suc, ◌+◌, ◌*◌, ◌≤◌, ◌<◌}
use native.Mathlib.Nat.{suc-mul, zero-mul, add-suc, add-zero}
use native.Mathlib.Numerals.{add-one}
use native.Mathlib.Omega.{arith}
use lib.ListN.{length, get_or, drop, length-append, length-drop}
use lib.Seq.{take_at, drop_at, take_all, take-append-le, drop-append-le, drop-drop}
use lib.Ieee.{Float, nan, binary64, add, mul}
use Rattle.float.proofs.Order.{lt_or_ge}
use Rattle.rows.specs.Rows.{put_part, row_of}
use Rattle.rows.proofs.Rows.{row_within}
use Rattle.mixture_softmax.specs.Leaves.{joined, weighed}

-- ---- rows of k elements
module _ (f : ℕ → List Float) (k : ℕ) where
  pub joined_length : (n : ℕ) → ((i : ℕ) → i < n → length (f i) ≡ k) → length (joined f n) ≡ n * k
  unfolding joined
  joined_length zero long = sym (zero-mul k)
  joined_length (suc n) long =
      length-append (joined f n) (f n) ∙ rw (joined_length n (λ i h. long i (omega arith)), long n (omega arith), suc-mul)

  -- row i of them
  pub joined_row : (n i : ℕ) → ((i : ℕ) → i < n → length (f i) ≡ k) → i < n → row_of (joined f n) k i ≡ f i
  unfolding joined
  joined_row zero i long h = absurd (omega arith)
  joined_row (suc n) i long h =
      let l = joined_length n (λ i h. long i (omega arith)) in
      ⊎_elim
      (λ (g : i < n).
      let w : i * k + k ≤ n * k = row_within i n k g in
      let a : i * k ≤ length (joined f n) = omega arith in
      let b : k ≤ length (drop (i * k) (joined f n)) = rw length-drop (omega arith) in
      rw (drop-append-le (i * k) (joined f n) (f n) a, take-append-le k (drop (i * k) (joined f n)) (f n) b)
      (joined_row n i (λ i h. long i (omega arith)) g))
      (λ (g : n ≤ i).
      let e : i ≡ n = omega arith in
      let b : length (f n) ≤ k = omega (arith, long n (omega arith)) in
      rw (e, drop_at (joined f n) (f n) (n * k) l) (take_all k (f n) b))
      (lt_or_ge i n)

-- none of them before what stood there, one more in its place, and all
pub joined_none : (f : ℕ → List Float) (k : ℕ) (l : List Float) → l ≡ joined f 0 ++ drop (0 * k) l
unfolding joined
joined_none f k l = ap (λ (n : ℕ). drop n l) (sym (zero-mul k))

pub joined_turn : (f : ℕ → List Float) (k i n : ℕ) (l w v : List Float) → ((j : ℕ) → j < i → length (f j) ≡ k) → n ≡ k
    → w ≡ joined f i ++ drop (i * k) l → v ≡ f i
    → put_part w (i * k) n v ≡ joined f (i + 1) ++ drop ((i + 1) * k) l
unfolding joined
joined_turn f k i n l w v long p e q =
    let r = joined_length f k i long in
    rw (
      e,
      p,
      q,
      take_at (joined f i) (drop (i * k) l) (i * k) r,
      drop_at (joined f i) (drop (i * k) l) (i * k) r,
      add-one,
      suc-mul,
      append_assoc,
    )
    (ap (λ (x : List Float). joined f i ++ (f i ++ x)) (drop-drop k (i * k) l))

pub joined_map : (g : Float → Float) (f : ℕ → List Float) (n : ℕ) → map g (joined f n) ≡ joined (λ (i : ℕ). map g (f i)) n
unfolding joined
joined_map g f zero = refl
joined_map g f (suc n) = map-append g (joined f n) (f n) ∙ ap (λ (r : List Float). r ++ map g (f n)) (joined_map g f n)

pub joined_same : (f g : ℕ → List Float) (n : ℕ) → ((i : ℕ) → i < n → f i ≡ g i) → joined f n ≡ joined g n
unfolding joined
joined_same f g zero e = refl
joined_same f g (suc n) e = rw (joined_same f g n (λ i h. e i (omega arith)), e n (omega arith))

pub joined_more : (f : ℕ → List Float) (i n : ℕ) → joined f i ++ joined (λ (j : ℕ). f (i + j)) n ≡ joined f (i + n)
unfolding joined
joined_more f i zero = rw (add-zero, append-nil)
joined_more f i (suc n) = rw (add-suc, ← append_assoc, joined_more f i n)

-- ---- leaves weighed
pub weighed_none : (f : ℕ → Float) (ws : List Float) (l : Float) → l ≡ weighed f ws l 0
unfolding weighed
weighed_none f ws l = refl

pub weighed_turn : (f : ℕ → Float) (ws : List Float) (l s v : Float) (i : ℕ) → s ≡ weighed f ws l i → v ≡ f i
    → add binary64 s (mul binary64 (get_or ws i nan) v) ≡ weighed f ws l (i + 1)
unfolding weighed
weighed_turn f ws l s v i e h = rw (add-one, e, h)

pub weighed_same : (f g : ℕ → Float) (ws vs : List Float) (l : Float) (n : ℕ) → ((i : ℕ) → i < n → f i ≡ g i)
    → ((i : ℕ) → i < n → get_or ws i nan ≡ get_or vs i nan)
    → weighed f ws l n ≡ weighed g vs l n
unfolding weighed
weighed_same f g ws vs l zero e h = refl
weighed_same f g ws vs l (suc n) e h =
    rw (weighed_same f g ws vs l n (λ i k. e i (omega arith)) (λ i k. h i (omega arith)), e n (omega arith), h n (omega arith))

pub weighed_more : (f : ℕ → Float) (ws vs : List Float) (l : Float) (i n : ℕ) → ((j : ℕ) → j < n → get_or vs j nan ≡ get_or ws (i + j) nan)
    → weighed (λ (j : ℕ). f (i + j)) vs (weighed f ws l i) n ≡ weighed f ws l (i + n)
unfolding weighed
weighed_more f ws vs l i zero e = rw add-zero
weighed_more f ws vs l i (suc n) e = rw (add-suc, weighed_more f ws vs l i n (λ j h. e j (omega arith)), e n (omega arith))
