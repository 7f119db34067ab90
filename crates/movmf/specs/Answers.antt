-- Document 01, 'Code places and their forms': the number and values of each case of an answer. Definitions only.
use Rattle.std.specs.Prelude.{◌≡◌, ℕ, Float, Result, Ok, Err}
use Rattle.counts.specs.declared.Counts.{Counts}
use Rattle.mixture_outputs.specs.Outputs.{Outputs}
use Rattle.mixture_outputs.specs.Labels.{LabelsFirst}
use Rattle.movmf.specs.declared.Fitted.{Fitted}
use Rattle.limits.specs.Refusals.{number_of}
use Rattle.limits.specs.declared.Refusal.{Refusal}

-- the number of the refusal, 0 for none; the number of groups, the log-likelihood and the counts
pub record Numbers : Type 0 where
  pub refusal : ℕ
  pub groups : ℕ
  pub loglik : Float
  pub counts : Counts

-- what an answer does not have is as found
abbrev pub numbers_of : Numbers → Result Fitted Refusal → Numbers
numbers_of found (Err e) =
    record { refusal = number_of e; groups = found.groups; loglik = found.loglik; counts = found.counts }
numbers_of found (Ok f) = record { refusal = 0; groups = f.k; loglik = f.loglik; counts = f.counts }

-- the answer's number is this refusal
abbrev pub AnswersWith : ℕ → Result Fitted Refusal → Type 0
AnswersWith code answer = (found : Numbers) → (numbers_of found answer).refusal ≡ code

-- the labels of this answer, with these arrays after it: of equal responsibilities the lower group
abbrev pub AnswerLabelsFirst : ℕ → Result Fitted Refusal → Outputs → Type 0
AnswerLabelsFirst m answer o =
    (found : Numbers) → let n = numbers_of found answer in LabelsFirst m n.refusal n.groups o
