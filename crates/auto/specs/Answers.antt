-- Document 01, 'Code places and their forms': the number and values of each case of an answer. Definitions only.
use Rattle.std.specs.Prelude.{ℕ, Float, Result, Ok, Err}
use Rattle.limits.specs.Refusals.{number_of}
use Rattle.counts.specs.declared.Counts.{Counts}
use Rattle.mixture_outputs.specs.Outputs.{Outputs}
use Rattle.mixture_outputs.specs.Labels.{LabelsFirst}
use Rattle.auto.specs.declared.Chosen.{Chosen}
use Rattle.auto.specs.declared.NotChosen.{NotChosen}
use Rattle.auto.specs.declared.NotChosen.TheVariants.{Refused, Unscored}

-- the number of the refusal, 0 for none; the number kept, its log-likelihood and score, and the counts
pub record Numbers : Type 0 where
  pub refusal : ℕ
  pub groups : ℕ
  pub loglik : Float
  pub score : Float
  pub counts : Counts

-- the number of the refusal, 7 where no number has a score
abbrev pub number_of_not_chosen : NotChosen → ℕ
number_of_not_chosen (Refused e) = number_of e
number_of_not_chosen (Unscored counts) = 7

-- what an answer does not have is as found; 7 has the counts
abbrev pub numbers_of : Numbers → Result Chosen NotChosen → Numbers
numbers_of found (Err (Refused e)) =
    record {
      refusal = number_of e;
      groups = found.groups;
      loglik = found.loglik;
      score = found.score;
      counts = found.counts;
    }
numbers_of found (Err (Unscored counts)) =
    record {
      refusal = number_of_not_chosen (Unscored counts);
      groups = found.groups;
      loglik = found.loglik;
      score = found.score;
      counts = counts;
    }
numbers_of found (Ok c) =
    record { refusal = 0; groups = c.k; loglik = c.loglik; score = c.score; counts = c.counts }

-- the labels of this answer, with these arrays after it: of equal responsibilities the lower group
abbrev pub AnswerLabelsFirst : ℕ → Result Chosen NotChosen → Outputs → Type 0
AnswerLabelsFirst m answer o =
    (found : Numbers) → let n = numbers_of found answer in LabelsFirst m n.refusal n.groups o
