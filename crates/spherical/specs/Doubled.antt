-- Document 01's count doubled, of a call of `spherical_kmeans`, and document 02, #110, as a caller reads it.
-- Definitions only.
use Rattle.std.specs.Prelude.{◌≡◌, List, ℕ, max, length, Float, Ok}
use Rattle.counts.specs.Counts.{sum_over}
use Rattle.kmeans_lloyd.specs.Doubled.{doubled_of}
use Rattle.kmeans_restarts.specs.Restarts.{generator_before}
use Rattle.spherical.specs.Refusals.{refusal_of}

-- doubled, over all restarts; 0 restarts act as 1
abbrev pub doubled_in : List Float → List Float → ℕ → ℕ → ℕ → ℕ → ℕ → ℕ → ℕ
doubled_in weights coords m k d rounds restarts seed =
    sum_over (λ (t : ℕ). doubled_of weights coords m k d rounds (generator_before weights coords m k d rounds seed t)) 0
    (max restarts 1)

-- in a call that is not refused it is zero
abbrev pub CallsNeverDoubled : Type 0
CallsNeverDoubled =
    (weights coords : List Float) (d k rounds restarts seed labels directions work workU32 : ℕ)
    → refusal_of weights coords d k rounds restarts labels directions work workU32 ≡ Ok tt
    → doubled_in weights coords (length weights) k d rounds restarts seed ≡ 0
