-- Document 01, 'Refusals by call': `movmf_with`. Definitions only.
use Rattle.std.specs.Prelude.{List, ℕ, length, Float, Result, ⊤}
use Rattle.limits.specs.declared.Refusal.{Refusal}
use Rattle.limits.specs.Limits.{groups_ok}
use Rattle.mixture_kappa.specs.declared.Settings.{Settings}
use Rattle.mixture_outputs.specs.Refusals.{fit_refusal}
use Rattle.mixture_outputs.specs.declared.Lengths.{Lengths}

-- 2 if k is 0, above 64 or above m
abbrev pub refusal_of : (weights coords : List Float) (d k : ℕ) → Settings → Lengths → Result ⊤ Refusal
refusal_of weights coords d k s l = fit_refusal (groups_ok k (length weights)) weights coords d k s l
