-- Document 01, 'Choosing the number of groups': what a call of `movmf_auto_with` answers, and what the output arrays
-- hold after it. Definitions only.
use Rattle.std.specs.Prelude.{List, ℕ, ◌+◌, ◌-◌, length, Float, Some, None, Result, Ok, Err, ⊤}
use Rattle.limits.specs.declared.Refusal.{Refusal}
use Rattle.counts.specs.declared.Counts.{Counts}
use Rattle.mixture_kappa.specs.declared.Settings.{Settings}
use Rattle.mixture_outputs.specs.Outputs.{Outputs, lengths_of}
use Rattle.auto_choice.specs.Choice.{highest, lowest, Choice}
use Rattle.auto_tries.specs.Lone.{lone, chosen_of, counts_of, written_by}
use Rattle.auto.specs.Refusals.{refusal_of}
use Rattle.auto.specs.declared.Chosen.{Chosen}
use Rattle.auto.specs.declared.NotChosen.{NotChosen}
use Rattle.auto.specs.declared.NotChosen.TheVariants.{Refused, Unscored}

pub record Outcome : Type 0 where
  pub answer : Result Chosen NotChosen
  pub outputs : Outputs

abbrev pub answered : Result Chosen NotChosen → Outputs → Outcome
answered answer outputs = record { answer = answer; outputs = outputs }

-- by the choice among the lone scores: none is 7; a number is answered with its lone fit's log-likelihood, and its
-- score
abbrev pub answer_by : List Float → List Float → ℕ → Settings → Counts → Choice → Result Chosen NotChosen
answer_by weights coords d s counts None = Err (Unscored counts)
answer_by weights coords d s counts (Some n) =
    Ok (record { k = n.k; loglik = (lone weights coords d s n.k).em.loglik; score = n.score; counts = counts })

-- the arrays as found, the leaves and the settings
module _ (o : Outputs) (weights coords : List Float) (d : ℕ) (s : Settings) where
  -- every number from lo to hi: the counts are those of all lone fits, the arrays hold the kept one
  abbrev pub ended : (lo hi : ℕ) → Outcome
  ended lo hi =
      let n = hi + 1 - lo in
      let choice = chosen_of weights coords d s lo n in
      record {
        answer = answer_by weights coords d s (counts_of weights coords d s lo n) choice;
        outputs = written_by weights coords d s choice o;
      }

  -- a refusal changes no output array
  abbrev pub outcome_by : (lo hi : ℕ) → Result ⊤ Refusal → Outcome
  outcome_by lo hi (Ok x) = ended lo hi
  outcome_by lo hi (Err e) = record { answer = Err (Refused e); outputs = o }

  abbrev pub outcome_in : (lo hi work workU32 : ℕ) → Outcome
  outcome_in lo hi work workU32 = outcome_by lo hi (refusal_of weights coords d hi s (lengths_of o work workU32))

  abbrev pub outcome : (kMin kMax work workU32 : ℕ) → Outcome
  outcome kMin kMax work workU32 =
      let hi = highest kMax (length weights) in
      outcome_in (lowest kMin hi) hi work workU32
