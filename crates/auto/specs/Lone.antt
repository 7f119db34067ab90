-- Document 01, 'Choosing the number of groups': the lone fit of k is what `movmf_with` gives for k groups. Definitions
-- only.
use Rattle.std.specs.Prelude.{◌≡◌, List, ℕ, ◌≤◌, length, Float, Ok}
use Rattle.mixture_kappa.specs.declared.Settings.{Settings}
use Rattle.mixture_outputs.specs.Outputs.{Outputs, written, lengths_of}
use Rattle.movmf.specs.Outcome as movmf
use Rattle.auto_choice.specs.Choice.{highest, lowest}
use Rattle.auto_tries.specs.Lone.{lone}
use Rattle.auto.specs.Refusals.{refusal_of}

-- in a call of the automatic fit that 1 to 6 do not refuse, for each k of its range, with the same arrays
abbrev pub LoneIsTheEntry : Type 0
LoneIsTheEntry =
    (o : Outputs) (weights coords : List Float) (d : ℕ) (s : Settings) (kMin kMax work workU32 k : ℕ)
    → let hi = highest kMax (length weights) in
    refusal_of weights coords d hi s (lengths_of o work workU32) ≡ Ok tt → lowest kMin hi ≤ k → k ≤ hi
    → let fit = lone weights coords d s k in
    movmf.outcome o weights coords d k s work workU32
    ≡ record {
      answer = Ok (record { k = k; loglik = fit.em.loglik; counts = fit.counts });
      outputs = written (length weights) k d fit.em o;
    }
