-- Document 01's count doubled, of the automatic fit, and document 02, #110, as a caller of `movmf_auto_with` reads it.
-- Definitions only.
use Rattle.std.specs.Prelude.{◌≡◌, List, ℕ, ◌+◌, ◌-◌, length, Float, Ok}
use Rattle.mixture_kappa.specs.declared.Settings.{Settings}
use Rattle.mixture_outputs.specs.declared.Lengths.{Lengths}
use Rattle.counts.specs.Counts.{sum_over}
use Rattle.mixture_restarts.specs.Doubled.{doubled_in_fit}
use Rattle.auto_choice.specs.Choice.{highest, lowest}
use Rattle.auto.specs.Refusals.{refusal_of}

-- over all numbers tried, from lo to hi
abbrev pub doubled_in_range : Settings → (weights coords : List Float) (m d lo hi : ℕ) → ℕ
doubled_in_range s weights coords m d lo hi =
    sum_over (λ (k : ℕ). doubled_in_fit s weights coords m k d) lo (hi + 1 - lo)

-- in a call that is not refused doubled is zero, over all restarts and all numbers tried; so it is with 7
abbrev pub CallsNeverDoubled : Type 0
CallsNeverDoubled =
    (weights coords : List Float) (d kMin kMax : ℕ) (s : Settings) (l : Lengths)
    → let hi = highest kMax (length weights) in
    refusal_of weights coords d hi s l ≡ Ok tt
    → doubled_in_range s weights coords (length weights) d (lowest kMin hi) hi ≡ 0
