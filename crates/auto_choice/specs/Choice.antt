-- Document 01, 'Choosing the number of groups': the clamped range, the score and the choice. Definitions only.
use Rattle.std.specs.Prelude.{List, Bool, true, false, ◌⊎◌, ℕ, zero, suc, ◌+◌, ◌≤◌, ◌<◌, min, max, T}
use Rattle.std.specs.Prelude.{Float, Option, Some, None}
use Rattle.std.specs.Float.{inf, binary64}
use Rattle.std.specs.Float.Ieee.{add, mul, neg, lt, le, is_nan}
use Rattle.float.specs.Arithmetic.{number, minus_zero, sum_from}
use Rattle.logarithm.specs.Logarithm.{ln_of}
use Rattle.mixture_kappa.specs.Kappas.{parameters_of}
use Rattle.mixture_kappa.specs.declared.Kappa.{Kappa}
use Rattle.auto_choice.specs.declared.Scored.{Scored}

-- k_hi = max(1, min(k_max, m)), k_lo = min(max(k_min, 1), k_hi)
abbrev pub highest : ℕ → ℕ → ℕ
highest kMax m = max 1 (min kMax m)

abbrev pub lowest : ℕ → ℕ → ℕ
lowest kMin hi = min (max kMin 1) hi

-- the weights summed from −0, in leaf order
abbrev pub total_of : List Float → Float
total_of weights = sum_from minus_zero weights

-- −2·loglik + p·ln(total weight), with the logarithm at hand, and of these weights
abbrev pub score_by : Kappa → ℕ → ℕ → Float → Float → Float
score_by kappa k d loglik lnTotal = add binary64 (mul binary64 (neg (number 2)) loglik)
    (mul binary64 (number (parameters_of kappa k d)) lnTotal)

abbrev pub score_of : Kappa → ℕ → ℕ → List Float → Float → Float
score_of kappa k d weights loglik = score_by kappa k d loglik (ln_of (total_of weights))

-- either a number with its score or none
abbrev pub Choice : Type 0
Choice = Option Scored

abbrev pub number_with : ℕ → Float → Choice
number_with k score = Some (record { k = k; score = score })

-- the score held, +infinity where there is none
abbrev pub held_score : Choice → Float
held_score None = inf false
held_score (Some n) = n.score

abbrev pub choose_by : Bool → Choice → Choice → Choice
choose_by true new held = new
choose_by false new held = held

-- a number is kept where its score beats the one held; NaN beats nothing
abbrev pub choose : Choice → ℕ → Float → Choice
choose held k score = choose_by (lt score (held_score held)) (number_with k score) held

-- among the first n numbers from lo on
unfoldable pub chosen : (ℕ → Float) → ℕ → ℕ → Choice
chosen score lo zero = None
chosen score lo (suc n) = choose (chosen score lo n) (lo + n) (score (lo + n))

-- ---- the best number of a range: scores compare as f64
pub record BestOf (score : ℕ → Float) (lo hi k : ℕ) : Type 0 where
  pub least : lo ≤ k
  pub most : k ≤ hi
  pub below : T (lt (score k) (inf false))
  pub smaller : (j : ℕ) → lo ≤ j → j < k → T (is_nan (score j)) ⊎ T (lt (score k) (score j))
  pub larger : (j : ℕ) → k < j → j ≤ hi → T (is_nan (score j)) ⊎ T (le (score k) (score j))
