-- Document 02, #110, as a caller of `movmf_with` reads it. Definitions only.
use Rattle.std.specs.Prelude.{◌≡◌, List, ℕ, length, Float, Ok}
use Rattle.mixture_kappa.specs.declared.Settings.{Settings}
use Rattle.mixture_outputs.specs.declared.Lengths.{Lengths}
use Rattle.mixture_restarts.specs.Doubled.{doubled_in_fit}
use Rattle.movmf.specs.Refusals.{refusal_of}

-- in a call that is not refused doubled is zero, over its four restarts
abbrev pub CallsNeverDoubled : Type 0
CallsNeverDoubled =
    (weights coords : List Float) (d k : ℕ) (s : Settings) (l : Lengths)
    → refusal_of weights coords d k s l ≡ Ok tt
    → doubled_in_fit s weights coords (length weights) k d ≡ 0
