-- Laws of one row (specs/Softmax.antt): its length; the elements passed replaced by their exponentials; the sum and the shares of a row by
-- the exponentials of what it is less a number. Assumes nothing.
use mathlib.Core.Path.{◌≡◌, refl, ap, ◌∙◌}
use mathlib.Core.List.{List, [], ◌∷◌, ◌++◌, map, map-append, append_assoc}
use Prim.Native.Nat.{ℕ, suc, ◌+◌, ◌≤◌}
use native.Mathlib.Omega.{arith}
use lib.ListN.{length, length-map, take, drop}
use Rattle.std.proofs.lemmas.List.{take-map}
use lib.Seq.{take-add, take-take, take-append-le, take_at, drop_at, drop-drop, length-take-le}
use lib.Ieee.{Float, binary64, add, sub}
use Rattle.float.specs.Arithmetic.{sum_from}
use Rattle.exponential.specs.Exponential.{exp_of}
use Rattle.rows.specs.Rows.{put_part}
use Rattle.mixture_softmax.specs.Softmax.{exp_sum_from, shares_of, log_sum_exp}
use Rattle.mixture_softmax.specs.Blocks.{less_by, log_sum_over, from_greatest}

pub shares_length : (lse : Float) (row : List Float) → length (shares_of lse row) ≡ length row
shares_length lse [] = refl
shares_length lse (x ∷ row) = ap suc (shares_length lse row)

-- ---- exponentials
-- the first j elements replaced by their exponentials
abbrev pub exps_to : List Float → ℕ → List Float
exps_to l j = map exp_of (take j l) ++ drop j l

module _ (l e : List Float) (j : ℕ) (h : j ≤ length l) (is : e ≡ exps_to l j) where
  front : length (map exp_of (take j l)) ≡ j
  front = length-map (take j l) exp_of ∙ length-take-le j l h

  exps_turn : (n : ℕ) (v : List Float) → n ≡ 8 → v ≡ map exp_of (take n (drop j e)) → put_part e j n v ≡ exps_to l (j + 8)
  exps_turn n v p q =
      let rest : drop j e ≡ drop j l = ap (drop j) is ∙ drop_at (map exp_of (take j l)) (drop j l) j front in
      let done : take j e ≡ map exp_of (take j l) = ap (take j) is ∙ take_at (map exp_of (take j l)) (drop j l) j front in
      rw (q, done, rest, p, take-add j 8 l, map-append exp_of (take j l) (take 8 (drop j l)), append_assoc, drop-drop 8 j l)

  pub exps_end : (n : ℕ) → n ≤ j → take n e ≡ map exp_of (take n l)
  exps_end n k =
      let within : n ≤ length (map exp_of (take j l)) = omega (arith, front) in
      rw (is, take-append-le n (map exp_of (take j l)) (drop j l) within, take-map, take-take n j l k)

-- two calls of eight: sixteen elements more
pub exps_twice : (l e : List Float) (j : ℕ) → j + 16 ≤ length l → e ≡ exps_to l j → (n m : ℕ) (v w : List Float) → n ≡ 8 → m ≡ 8
    → v ≡ map exp_of (take n (drop j e)) → w ≡ map exp_of (take m (drop (j + 8) (put_part e j n v)))
    → put_part (put_part e j n v) (j + 8) m w ≡ exps_to l (j + 16)
exps_twice l e j h is n m v w p q r s =
    let first : put_part e j n v ≡ exps_to l (j + 8) = exps_turn l e j (omega arith) is n v p r in
    let e₈ : j + 8 + 8 ≡ j + 16 = omega arith in
    exps_turn l (put_part e j n v) (j + 8) (omega arith) first m w q s ∙ ap (exps_to l) e₈

-- ---- by the exponentials of a row less g: its sum of exponentials, its shares, its log-sum
sum_over : (g s : Float) (row : List Float) → sum_from s (map exp_of (less_by g row)) ≡ exp_sum_from g s row
sum_over g s [] = refl
sum_over g s (x ∷ row) = sum_over g (add binary64 s (exp_of (sub binary64 x g))) row

pub shares_by : (lse : Float) (row : List Float) → map exp_of (less_by lse row) ≡ shares_of lse row
shares_by lse [] = refl
shares_by lse (x ∷ row) = ap (λ (r : List Float). exp_of (sub binary64 x lse) ∷ r) (shares_by lse row)

pub log_sum_over_law : (row : List Float) → log_sum_over row (map exp_of (from_greatest row)) ≡ log_sum_exp row
unfolding log_sum_exp
log_sum_over_law row = rw sum_over
