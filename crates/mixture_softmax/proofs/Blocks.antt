-- Laws of a block of leaves, over plain lists: what the inner functions promise, row by row, makes the shares and the log-likelihood of
-- specs/Softmax.antt. Assumes nothing.
use mathlib.Core.Path.{◌≡◌, refl, sym, ap, ◌∙◌}
use mathlib.Core.List.{List, ◌++◌, map, append_assoc}
use Prim.Native.Nat.{ℕ, ◌+◌, ◌-◌, ◌*◌, ◌≤◌, ◌<◌}
use native.Mathlib.Nat.{add-mul, mul-le-mul_right}
use native.Mathlib.Omega.{arith}
use lib.ListN.{length, length-map, take, drop}
use lib.Seq.{take_at, drop_at, drop-drop, get_or-take, get_or-drop}
use lib.Ieee.{Float, nan, binary64, sub}
use Rattle.exponential.specs.Exponential.{exp_of}
use Rattle.rows.specs.Rows.{part, put_part, row_of}
use Rattle.rows.proofs.Rows.{row_within, length_part, part_take}
use Rattle.mixture_softmax.specs.Softmax.{shares_of, log_sum_exp}
use Rattle.mixture_softmax.specs.Leaves.{joined, weighed, log_sum_at, shares_at, shares_up_to, logs_up_to}
use Rattle.mixture_softmax.specs.Blocks.{less_by, from_greatest, from_greatest_at, from_greatests, log_sum_over, log_over_at, from_log_at}
use Rattle.mixture_softmax.specs.Blocks.{from_logs, logs_over, Block}
use Rattle.mixture_softmax.proofs.Softmax.{shares_length, shares_by, log_sum_over_law}
use Rattle.mixture_softmax.proofs.Joined.{joined_length, joined_row, joined_turn, joined_map, joined_same, joined_more, weighed_same}
use Rattle.mixture_softmax.proofs.Joined.{weighed_more}

module _ (k : ℕ) (rows : List Float) (m : ℕ) (long : length rows ≡ m * k) where
  -- a row less a number is k elements long
  less_row : (g : Float) (i : ℕ) → i < m → length (less_by g (row_of rows k i)) ≡ k
  less_row g i h =
      length-map (row_of rows k i) (λ (x : Float). sub binary64 x g)
      ∙ length_part rows (i * k) k (omega (arith, row_within i m k h))

  -- a turn of `less_greatests`
  pub greatests_turn : (e₀ e v : List Float) (i n : ℕ) → i < m → n ≡ k → e ≡ from_greatests k rows i ++ drop (i * k) e₀
      → v ≡ from_greatest_at k rows i
      → put_part e (i * k) n v ≡ from_greatests k rows (i + 1) ++ drop ((i + 1) * k) e₀
  greatests_turn e₀ e v i n h p q r =
      joined_turn (from_greatest_at k rows) k i n e₀ e v (λ j g. less_row _ j (omega arith)) p q r

  -- a turn of `less_log_sums`
  module _ (e₀ e : List Float) (i : ℕ) (h : i < m) (q : e ≡ from_logs k rows e₀ i ++ drop (i * k) e₀) (lse : Float)
      (is : lse ≡ log_over_at k rows e i) where
    logs_long : (j : ℕ) → j < i → length (from_log_at k rows e₀ j) ≡ k
    logs_long j g = less_row _ j (omega arith)

    pub log_row : lse ≡ log_over_at k rows e₀ i
    log_row =
        let l = joined_length (from_log_at k rows e₀) k i logs_long in
        let rest : drop (i * k) e ≡ drop (i * k) e₀ = ap (drop (i * k)) q ∙ drop_at (from_logs k rows e₀ i) (drop (i * k) e₀) (i * k) l in
        is ∙ rw rest

    pub logs_turn : (v : List Float) → v ≡ put_part e (i * k) k (less_by lse (row_of rows k i))
        → v ≡ from_logs k rows e₀ (i + 1) ++ drop ((i + 1) * k) e₀
    logs_turn v r =
        r ∙ joined_turn (from_log_at k rows e₀) k i k e₀ e (less_by lse (row_of rows k i)) logs_long refl q
        (ap (λ (x : Float). less_by x (row_of rows k i)) log_row)

  -- the whole block: e₁ is what the rows are less their greatest, e₂ has their exponentials
  module _ (e₀ e₁ e₂ : List Float) (first : e₁ ≡ from_greatests k rows m ++ drop (m * k) e₀)
      (second : take (length rows) e₂ ≡ map exp_of (take (length rows) e₁)) where
    -- row i of e₂, and the log-sum by it
    exps_row : (i : ℕ) → i < m → row_of e₂ k i ≡ map exp_of (from_greatest (row_of rows k i))
    exps_row i h =
        let f : ℕ → List Float = from_greatest_at k rows in
        let l : length (joined f m) ≡ m * k = joined_length f k m (λ j g. less_row _ j g) in
        let all : take (m * k) e₂ ≡ joined (λ (j : ℕ). map exp_of (f j)) m =
        rw long at second ∙ ap (λ (x : List Float). map exp_of (take (m * k) x)) first
        ∙ ap (map exp_of) (take_at (joined f m) (drop (m * k) e₀) (m * k) l) ∙ joined_map exp_of f m in
        sym (part_take e₂ (m * k) (i * k) k (row_within i m k h)) ∙ ap (λ (x : List Float). row_of x k i) all
        ∙ joined_row (λ (j : ℕ). map exp_of (f j)) k m i (λ j g. length-map (f j) exp_of ∙ less_row _ j g) h

    log_is : (i : ℕ) → i < m → log_over_at k rows e₂ i ≡ log_sum_at k rows i
    log_is i h = ap (log_sum_over (row_of rows k i)) (exps_row i h) ∙ log_sum_over_law (row_of rows k i)

    pub logs_done : (ws : List Float) (l : Float) → logs_over k rows e₂ ws l m ≡ logs_up_to k rows ws l m
    logs_done ws l = weighed_same (log_over_at k rows e₂) (log_sum_at k rows) ws ws l m log_is (λ i h. refl)

    pub shares_done : (e₃ e₄ : List Float) → e₃ ≡ from_logs k rows e₂ m ++ drop (m * k) e₂
        → take (length rows) e₄ ≡ map exp_of (take (length rows) e₃)
        → take (length rows) e₄ ≡ shares_up_to k rows m
    shares_done e₃ e₄ third fourth =
        let f : ℕ → List Float = from_log_at k rows e₂ in
        let l : length (joined f m) ≡ length rows = joined_length f k m (λ j g. less_row _ j g) ∙ sym long in
        let front : take (length rows) e₃ ≡ joined f m =
        ap (take (length rows)) third ∙ take_at (joined f m) (drop (m * k) e₂) (length rows) l in
        fourth ∙ ap (map exp_of) front ∙ joined_map exp_of f m
        ∙ joined_same (λ (j : ℕ). map exp_of (f j)) (shares_at k rows) m
        (λ i h. shares_by (log_over_at k rows e₂ i) (row_of rows k i) ∙ ap (λ (x : Float). shares_of x (row_of rows k i)) (log_is i h))

-- ---- block after block: leaves i to end − 1 of m, b of them
module _ (k : ℕ) (rows₀ ws : List Float) (m : ℕ) (long : length rows₀ ≡ m * k) (i b end : ℕ) (ends : end ≡ i + b) (within : end ≤ m)
    (all : length ws ≡ m) where
  elements : end * k ≡ i * k + b * k
  elements = rw (ends, add-mul)

  inside : i * k + b * k ≤ m * k
  inside = rw elements at (mul-le-mul_right k within)

  -- how many elements and weights the code cuts out
  count : end * k - i * k ≡ b * k
  count = omega (arith, elements)

  weights_cut : length (part ws i (end - i)) ≡ b
  weights_cut =
      let e : end - i ≡ b = omega arith in
      rw e (length_part ws i b (omega arith))

  pub block_of : (rows : List Float) → length rows ≡ length rows₀ → (end - i) * k ≤ 256
      → Block (length (part rows (i * k) (end * k - i * k))) (length (part ws i (end - i))) k
  block_of rows same small =
      let e : end - i ≡ b = omega arith in
      let n : length (part rows (i * k) (end * k - i * k)) ≡ b * k = rw count (length_part rows (i * k) (b * k) (omega (arith, inside))) in
      record { rows_long = rw (n, weights_cut); rows_small = rw (n, ← e) small }

  module _ (rows : List Float) (is : rows ≡ shares_up_to k rows₀ i ++ drop (i * k) rows₀) where
    shares_long : length (shares_up_to k rows₀ i) ≡ i * k
    shares_long =
        joined_length (shares_at k rows₀) k i
        (λ j h. shares_length (log_sum_at k rows₀ j) (row_of rows₀ k j)
        ∙ length_part rows₀ (j * k) k (omega (arith, row_within j m k (omega arith))))

    rest : drop (i * k) rows ≡ drop (i * k) rows₀
    rest = ap (drop (i * k)) is ∙ drop_at (shares_up_to k rows₀ i) (drop (i * k) rows₀) (i * k) shares_long

    -- row j of what is cut out
    row_is : (j : ℕ) → j < b → row_of (part rows (i * k) (end * k - i * k)) k j ≡ row_of rows₀ k (i + j)
    row_is j h =
        rw (count, rest, part_take (drop (i * k) rows₀) (b * k) (j * k) k (row_within j b k h), add-mul)
        (ap (take k) (drop-drop (j * k) (i * k) rows₀))

    pub shares_more : (v : List Float) → v ≡ shares_up_to k (part rows (i * k) (end * k - i * k)) (length (part ws i (end - i)))
        → put_part rows (i * k) (end * k - i * k) v ≡ shares_up_to k rows₀ end ++ drop (end * k) rows₀
    shares_more v e =
        let done : take (i * k) rows ≡ shares_up_to k rows₀ i =
        ap (take (i * k)) is ∙ take_at (shares_up_to k rows₀ i) (drop (i * k) rows₀) (i * k) shares_long in
        let new : v ≡ joined (λ (j : ℕ). shares_at k rows₀ (i + j)) b =
        e ∙ ap (shares_up_to k (part rows (i * k) (end * k - i * k))) weights_cut
        ∙ joined_same (shares_at k (part rows (i * k) (end * k - i * k))) (λ (j : ℕ). shares_at k rows₀ (i + j)) b
        (λ j h. ap (λ (row : List Float). shares_of (log_sum_exp row) row) (row_is j h)) in
        rw (done, rest, new, count, elements, drop-drop (b * k) (i * k) rows₀, ends, ← joined_more (shares_at k rows₀) i b, append_assoc)

    pub logs_more : (l s : Float) → s ≡ logs_up_to k rows₀ ws l i → (r : Float)
        → r ≡ logs_up_to k (part rows (i * k) (end * k - i * k)) (part ws i (end - i)) s (length (part ws i (end - i)))
        → r ≡ logs_up_to k rows₀ ws l end
    logs_more l s h r e =
        let n : end - i ≡ b = omega arith in
        e ∙ ap (logs_up_to k (part rows (i * k) (end * k - i * k)) (part ws i (end - i)) s) weights_cut
        ∙ weighed_same (log_sum_at k (part rows (i * k) (end * k - i * k))) (λ (j : ℕ). log_sum_at k rows₀ (i + j)) (part ws i (end - i))
        (part ws i (end - i)) s b
        (λ j g. ap log_sum_exp (row_is j g)) (λ j g. refl)
        ∙ ap (λ (x : Float). weighed (λ (j : ℕ). log_sum_at k rows₀ (i + j)) (part ws i (end - i)) x b) h
        ∙ weighed_more (log_sum_at k rows₀) ws (part ws i (end - i)) l i b
        (λ j g. rw n (get_or-take b (drop i ws) j nan g ∙ get_or-drop i ws j nan))
        ∙ ap (logs_up_to k rows₀ ws l) (sym ends)
