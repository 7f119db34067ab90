-- A turn and the end of the loop over the series of several exponentials, and what comes of them between the borders and below −745.
-- Assumes nothing.
use Rattle.std.proofs.Common.{◌≡◌, true, T, ℕ, zero, suc, List, [], ◌∷◌, length, map, replicate, refl, sym, ap, ap₂, ◌∙◌, arith}
use Rattle.std.proofs.lemmas.List.Elements.{All-head, All-tail}
use Rattle.std.specs.List.{All}
use lib.Ieee.{Float, binary64, add, mul, div, lt, neg, of_int, of_bits}
use Rattle.float.specs.Arithmetic.{f64, number, plus_zero}
use Rattle.exponential.specs.Exponential.{exp_from, exp_of}
use Rattle.exponential.specs.Steps.{inside, begun, stepped, summed}
use Rattle.exponential.specs.declared.Term.{Term}
use Rattle.exponential.proofs.Exponential.{by_low, by_inner, inside_inner}
use Rattle.exponential.proofs.Low.{by_inside}

-- ---- the loop over the steps
one : f64 0x3FF0000000000000 ≡ number 1
unfolding of_bits of_int
one = refl

stepped_on : (j : ℕ) (s : List Term) → map (summed j) (map (stepped (number (suc j))) s) ≡ map (summed (suc j)) s
unfolding exp_from
stepped_on j [] = refl
stepped_on j (x ∷ s) =
    let q = div binary64 (mul binary64 x.r x.p) (number (suc j)) in
    ap₂ (λ (y : Term) (ys : List Term). y ∷ ys)
    (ap (λ (z : Float). record { r = x.r; p = exp_from j x.r (add binary64 z q); w = x.w }) one) (stepped_on j s)

pub series_turn : (j k : ℕ) (s t : List Term) → k ≡ suc j → t ≡ map (stepped (number k)) s → map (summed j) t ≡ map (summed k) s
series_turn j k s t h e =
    ap (map (summed j)) (e ∙ ap (λ (n : ℕ). map (stepped (number n)) s) h) ∙ stepped_on j s
    ∙ ap (λ (n : ℕ). map (summed n) s) (sym h)

pub series_end : (j : ℕ) (s : List Term) → j ≡ 0 → map (summed j) s ≡ s
unfolding exp_from
series_end j [] h = refl
series_end j (x ∷ s) h =
    ap₂ (λ (y : Term) (ys : List Term). y ∷ ys) (ap (λ (n : ℕ). summed n x) h) (series_end j s h)

-- ---- between the borders: the sum times 2^n
abbrev pub ended : Term → Float
ended t = mul binary64 t.p t.w

pub all_inner : (x : List Float) → All (λ v. T (inside v)) x → map ended (map (summed 13) (map begun x)) ≡ map exp_of x
all_inner [] h = refl
all_inner (v ∷ x) h =
    let i = All-head (λ v. T (inside v)) v x h in
    let b = inside_inner v i in
    ap₂ (λ (y : Float) (ys : List Float). y ∷ ys)
    (by_inside v _ _ i refl refl ∙ by_inner v b.0 b.1) (all_inner x (All-tail (λ v. T (inside v)) v x h))

-- ---- below −745
pub all_low : (x : List Float) (n : ℕ) → length x ≡ n → All (λ v. lt v (neg (number 745)) ≡ true) x → replicate n plus_zero ≡ map exp_of x
all_low [] zero l h = refl
all_low [] (suc n) l h = absurd (omega arith)
all_low (v ∷ x) zero l h = absurd (omega arith)
all_low (v ∷ x) (suc n) l h =
    ap₂ (λ (y : Float) (ys : List Float). y ∷ ys)
    (by_low v (All-head (λ v. lt v (neg (number 745)) ≡ true) v x h))
    (all_low x n (omega arith) (All-tail (λ v. lt v (neg (number 745)) ≡ true) v x h))
