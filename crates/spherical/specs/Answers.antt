-- Document 01, 'Code places and their forms': the number and values of each case of an answer. Definitions only.
use Rattle.std.specs.Prelude.{◌≡◌, ℕ, Float, Result, Ok, Err}
use Rattle.counts.specs.declared.Counts.{Counts}
use Rattle.spherical.specs.declared.Clustered.{Clustered}
use Rattle.limits.specs.Refusals.{number_of}
use Rattle.limits.specs.declared.Refusal.{Refusal}

-- the number of the refusal, 0 for none; the cohesion and the counts
pub record Numbers : Type 0 where
  pub refusal : ℕ
  pub cohesion : Float
  pub counts : Counts

-- what an answer does not have is as found
abbrev pub numbers_of : Numbers → Result Clustered Refusal → Numbers
numbers_of found (Err e) = record { refusal = number_of e; cohesion = found.cohesion; counts = found.counts }
numbers_of found (Ok c) = record { refusal = 0; cohesion = c.cohesion; counts = c.counts }

-- the answer's number is this refusal
abbrev pub AnswersWith : ℕ → Result Clustered Refusal → Type 0
AnswersWith code answer = (found : Numbers) → (numbers_of found answer).refusal ≡ code
