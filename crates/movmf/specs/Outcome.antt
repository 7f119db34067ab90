-- Document 01, 'Leaves, settings, fit' and 'Mixture': what a call of `movmf_with` answers, and what the output arrays
-- hold after it. Definitions only.
use Rattle.std.specs.Prelude.{List, ℕ, length, Float, Result, Ok, Err, ⊤}
use Rattle.limits.specs.declared.Refusal.{Refusal}
use Rattle.mixture_run.specs.Fits.{Once}
use Rattle.mixture_kappa.specs.declared.Settings.{Settings}
use Rattle.mixture_restarts.specs.Runs.{fit_of}
use Rattle.mixture_outputs.specs.Outputs.{Outputs, written, lengths_of}
use Rattle.movmf.specs.Refusals.{refusal_of}
use Rattle.movmf.specs.declared.Fitted.{Fitted}

pub record Outcome : Type 0 where
  pub answer : Result Fitted Refusal
  pub outputs : Outputs

abbrev pub answered : Result Fitted Refusal → Outputs → Outcome
answered answer outputs = record { answer = answer; outputs = outputs }

-- the arrays as found, the leaves, the settings, and the lengths of the two work arrays
module _ (o : Outputs) (weights coords : List Float) (d k : ℕ) (s : Settings) (work workU32 : ℕ) where
  abbrev pub done_with : Once → Outcome
  done_with fit =
      record {
        answer = Ok (record { k = k; loglik = fit.em.loglik; counts = fit.counts });
        outputs = written (length weights) k d fit.em o;
      }

  -- a refusal changes no output array
  abbrev pub outcome_by : Result ⊤ Refusal → Outcome
  outcome_by (Ok x) = done_with (fit_of s weights coords (length weights) k d)
  outcome_by (Err e) = record { answer = Err e; outputs = o }

  abbrev pub outcome : Outcome
  outcome = outcome_by (refusal_of weights coords d k s (lengths_of o work workU32))
