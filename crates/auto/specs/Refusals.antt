-- Document 01, 'Refusals by call': `movmf_auto_with`, but for 7, which comes last. Definitions only.
use Rattle.std.specs.Prelude.{List, ℕ, leb, Float, Result, ⊤}
use Rattle.limits.specs.declared.Refusal.{Refusal}
use Rattle.limits.specs.Limits.{most_groups}
use Rattle.mixture_kappa.specs.declared.Settings.{Settings}
use Rattle.mixture_outputs.specs.Refusals.{fit_refusal}
use Rattle.mixture_outputs.specs.declared.Lengths.{Lengths}

-- 2 if k_hi is above 64; the arrays are long enough for k_hi
abbrev pub refusal_of : (weights coords : List Float) (d hi : ℕ) → Settings → Lengths → Result ⊤ Refusal
refusal_of weights coords d hi s l = fit_refusal (leb hi most_groups) weights coords d hi s l
