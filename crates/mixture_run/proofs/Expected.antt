-- Laws of the E-step, over plain lists: the log densities of a leaf stand in its row, those of the first leaves before what was there, and
-- the log-softmax of the rows are the responsibilities. By recursion on the groups and the leaves. Assumes nothing.
use mathlib.Core.Path.{◌≡◌, refl, ap, sym, ◌∙◌}
use mathlib.Core.List.{List, ◌++◌, append_assoc, append-nil}
use Prim.Native.Nat.{ℕ, zero, suc, ◌+◌, ◌*◌, ◌≤◌, ◌<◌}
use native.Mathlib.Nat.{add-zero, add-suc}
use native.Mathlib.Omega.{arith}
use lib.ListN.{length, get_or, take, drop, set, length-append, take-append-drop}
use lib.Seq.{take_at, drop_at, drop-drop, length-take-le}
use lib.Ieee.{Float, nan, binary64, add, mul}
use Rattle.float.specs.Arithmetic.{plus_zero}
use Rattle.rows.specs.Rows.{put_part, row_of}
use Rattle.rows.specs.Tabulate.{tabulate}
use Rattle.vector.specs.Vectors.{dot_of}
use Rattle.kmeans_nearest.specs.Blocks.{row_dots}
use Rattle.rows.proofs.Rows.{put_more}
use Rattle.rows.proofs.Fills.{front_end}
use Rattle.rows.proofs.Tabulate.{tabulate_length, tabulate_at, tabulate_turn, tabulated_turn, tabulated_next}
use Rattle.mixture_softmax.specs.Softmax.{log_sum_exp}
use Rattle.mixture_softmax.specs.Leaves.{log_sum_at, shares_at, joined, weighed, shares_up_to, logs_up_to}
use Rattle.mixture_softmax.proofs.Softmax.{shares_length}
use Rattle.mixture_softmax.proofs.Joined.{joined_length, joined_row, joined_none, joined_turn, joined_same, weighed_same}
use Rattle.mixture_run.specs.Mixture.{Model, log_density_at, log_densities, softmax, expect_up_to}
use Rattle.mixture_run.specs.Areas.{Parts, model_of, with_resp, log_densities_from}

-- ---- the log densities of leaf x in n groups, from c on, of which the first e stand before what was there, the dots f
module _ (d : ℕ) (coefficients : List Float) (p : Model) (x y : List Float) (c n : ℕ) (f : List Float)
    (is : f ≡ row_dots y p.directions d c n) (leaf : y ≡ x) where
  dots_length : length f ≡ n
  dots_length = ap length is ∙ tabulate_length _ n

  abbrev densities_to : ℕ → List Float
  densities_to e = log_densities_from d coefficients p x c e ++ drop e f

  pub densities_turn : (l : List Float) (e : ℕ) → l ≡ densities_to e → e < n
      → set l e (add binary64 (get_or coefficients (c + e) nan) (mul binary64 (get_or p.kappas (c + e) nan) (get_or l e nan)))
      ≡ densities_to (e + 1)
  densities_turn l e g h =
      let density : ℕ → Float = λ (j : ℕ). log_density_at d coefficients p x (c + j) in
      let within : e < length f = omega (arith, dots_length) in
      let held : get_or l e nan ≡ get_or f e nan = rw g (tabulated_next density f e nan within) in
      let dot : get_or f e nan ≡ dot_of x (row_of p.directions d (c + e)) =
      rw (is, leaf) (tabulate_at (λ (j : ℕ). dot_of x (row_of p.directions d (c + j))) n e nan h) in
      rw (held, dot, g) (tabulated_turn density f e (density e) nan within refl)

  pub densities_end : (l : List Float) (e : ℕ) → l ≡ densities_to e → e ≡ n → l ≡ log_densities_from d coefficients p x c n
  densities_end l e g h = g ∙ rw h (front_end (log_densities_from d coefficients p x c n) f n dots_length)

-- ---- the row of a leaf, of which n are written from place `at` on
module _ (f : ℕ → Float) (w : List Float) (at : ℕ) where
  abbrev front : ℕ → List Float
  front n = put_part w at n (tabulate f n)

  front_none : w ≡ front 0
  unfolding tabulate
  front_none = sym (take-append-drop at w)

  front_one : (n : ℕ) → at + n < length w → set (front n) (at + n) (f n) ≡ front (n + 1)
  front_one n h =
      put_more w (tabulate f n) at n (f n) nan (tabulate_length f n) h ∙ ap (put_part w at (n + 1)) (tabulate_turn f n (f n) refl)

  -- n more at once
  tabulate_more : (c n : ℕ) → tabulate f c ++ tabulate (λ (e : ℕ). f (c + e)) n ≡ tabulate f (c + n)
  unfolding tabulate
  tabulate_more c zero = rw (append-nil, add-zero)
  tabulate_more c (suc n) = rw (add-suc, ← append_assoc, tabulate_more c n)

  front_block : (c n : ℕ) → at + c ≤ length w → put_part (front c) (at + c) n (tabulate (λ (e : ℕ). f (c + e)) n) ≡ front (c + n)
  front_block c n h =
      let t = tabulate f c in
      let done = take at w ++ t in
      let rest = drop c (drop at w) in
      let long : length done ≡ at + c = length-append (take at w) t ∙ rw (length-take-le at w (omega arith), tabulate_length f c) in
      rw (
        ← append_assoc (take at w) t rest,
        take_at done rest (at + c) long,
        drop_at done rest (at + c) long,
        drop-drop n c (drop at w),
        append_assoc,
        ← append_assoc t,
        tabulate_more c n,
      ) refl

-- the parts where the log densities of leaf i in the first n groups stand in its row
module _ (d k i : ℕ) (x : List Float) (p₀ : Parts) where
  abbrev density_in : Parts → ℕ → Float
  density_in p = log_density_at d p.log_coefficients (model_of p) x

  abbrev pub row_done : ℕ → Parts
  row_done n = with_resp (front (density_in p₀) p₀.resp (i * k) n) p₀

  pub row_start : p₀ ≡ row_done 0
  row_start = ap (λ (l : List Float). with_resp l p₀) (front_none (density_in p₀) p₀.resp (i * k))

  module _ (p p' : Parts) (c : ℕ) (f : p ≡ row_done c) where
    pub row_turn : i * k + c < length p₀.resp → p' ≡ with_resp (set p.resp (i * k + c) (density_in p c)) p → p' ≡ row_done (c + 1)
    row_turn h e =
        e ∙ ap (λ (q : Parts). with_resp (set q.resp (i * k + c) (density_in q c)) q) f
        ∙ ap (λ (l : List Float). with_resp l p₀) (front_one (density_in p₀) p₀.resp (i * k) c h)

    pub row_block : (n : ℕ) → i * k + c ≤ length p₀.resp
        → p' ≡ with_resp (put_part p.resp (i * k + c) n (log_densities_from d p.log_coefficients (model_of p) x c n)) p
        → p' ≡ row_done (c + n)
    row_block n h e =
        e ∙ ap (λ (q : Parts). with_resp (put_part q.resp (i * k + c) n (log_densities_from d q.log_coefficients (model_of q) x c n)) q) f
        ∙ ap (λ (l : List Float). with_resp l p₀) (front_block (density_in p₀) p₀.resp (i * k) c n h)

-- ---- all leaves
module _ (coords : List Float) (k d : ℕ) (coefficients : List Float) (p : Model) where
  -- the log densities of leaf i
  abbrev densities_of : ℕ → List Float
  densities_of i = log_densities k d coefficients p (row_of coords d i)

  densities_length : (i : ℕ) → length (densities_of i) ≡ k
  densities_length i = tabulate_length (log_density_at d coefficients p (row_of coords d i)) k

  softmax_length : (i : ℕ) → length (softmax (densities_of i)) ≡ k
  softmax_length i = shares_length (log_sum_exp (densities_of i)) (densities_of i) ∙ densities_length i

  -- their softmax and their weighed log-sums are what is expected
  expected_resp : (weights : List Float) (n : ℕ)
      → joined (λ (i : ℕ). softmax (densities_of i)) n ≡ (expect_up_to weights coords k d coefficients p n).resp
  unfolding joined expect_up_to
  expected_resp weights zero = refl
  expected_resp weights (suc n) = ap (λ (r : List Float). r ++ softmax (densities_of n)) (expected_resp weights n)

  expected_loglik : (weights : List Float) (n : ℕ)
      → weighed (λ (i : ℕ). log_sum_exp (densities_of i)) weights plus_zero n ≡ (expect_up_to weights coords k d coefficients p n).loglik
  unfolding weighed expect_up_to
  expected_loglik weights zero = refl
  expected_loglik weights (suc n) =
      ap (λ (l : Float). add binary64 l (mul binary64 (get_or weights n nan) (log_sum_exp (densities_of n)))) (expected_loglik weights n)

  -- so are the shares and the log-sums of all rows of log densities
  module _ (weights : List Float) (m : ℕ) where
    row_is : (i : ℕ) → i < m → row_of (joined densities_of m) k i ≡ densities_of i
    row_is i h = joined_row densities_of k m i (λ j g. densities_length j) h

    shares_are : shares_up_to k (joined densities_of m) m ≡ (expect_up_to weights coords k d coefficients p m).resp
    shares_are =
        joined_same (shares_at k (joined densities_of m)) (λ (i : ℕ). softmax (densities_of i)) m (λ i h. ap softmax (row_is i h))
        ∙ expected_resp weights m

    logs_are : logs_up_to k (joined densities_of m) weights plus_zero m ≡ (expect_up_to weights coords k d coefficients p m).loglik
    logs_are =
        weighed_same (log_sum_at k (joined densities_of m)) (λ (i : ℕ). log_sum_exp (densities_of i)) weights weights plus_zero m
        (λ i h. ap log_sum_exp (row_is i h)) (λ i h. refl)
        ∙ expected_loglik weights m

    pub resp_length : length (expect_up_to weights coords k d coefficients p m).resp ≡ m * k
    resp_length =
        ap length (sym (expected_resp weights m)) ∙ joined_length (λ (i : ℕ). softmax (densities_of i)) k m (λ i h. softmax_length i)

-- the parts where the log densities of the first n leaves stand before what was there
module _ (coords : List Float) (k d : ℕ) (p₀ : Parts) where
  abbrev densities : ℕ → List Float
  densities = densities_of coords k d p₀.log_coefficients (model_of p₀)

  abbrev pub rows_done : ℕ → Parts
  rows_done n = with_resp (joined densities n ++ drop (n * k) p₀.resp) p₀

  pub rows_start : p₀ ≡ rows_done 0
  rows_start = ap (λ (l : List Float). with_resp l p₀) (joined_none densities k p₀.resp)

  pub rows_turn : (p p' : Parts) (i : ℕ) → p ≡ rows_done i
      → p' ≡ with_resp (put_part p.resp (i * k) k (log_densities k d p.log_coefficients (model_of p) (row_of coords d i))) p
      → p' ≡ rows_done (i + 1)
  rows_turn p p' i f e =
      e ∙ ap (λ (q : Parts). with_resp
      (put_part q.resp (i * k) k (log_densities k d q.log_coefficients (model_of q) (row_of coords d i))) q) f
      ∙ ap (λ (l : List Float). with_resp l p₀)
      (joined_turn densities k i k p₀.resp _ (densities i) (λ j g. densities_length coords k d p₀.log_coefficients (model_of p₀) j)
      refl refl refl)

  -- all of them, and their log-softmax
  pub rows_end : (weights : List Float) (p : Parts) (i m : ℕ) → i ≡ m → length weights ≡ m → length p₀.resp ≡ m * k → p ≡ rows_done i
      → let e = expect_up_to weights coords k d p₀.log_coefficients (model_of p₀) m in
      (logs_up_to k p.resp weights plus_zero (length weights) ≡ e.loglik)
      × (with_resp (shares_up_to k p.resp (length weights)) p ≡ with_resp e.resp p₀)
  rows_end weights p i m all long room f =
      let is : p ≡ with_resp (joined densities m) p₀ =
      f ∙ ap rows_done all ∙ ap (λ (l : List Float). with_resp l p₀) (front_end (joined densities m) p₀.resp (m * k) room) in (
        rw (is, long) (logs_are coords k d p₀.log_coefficients (model_of p₀) weights m),
        rw (is, long) (ap (λ (l : List Float). with_resp l p₀) (shares_are coords k d p₀.log_coefficients (model_of p₀) weights m)),
      )
