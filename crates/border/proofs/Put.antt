-- Of the entries' own refusals the numbers that are put are those of the entries' maps. By cases on the answer. Assumes nothing.
use mathlib.Core.Path.{◌≡◌, refl, ◌∙◌}
use mathlib.Core.List.{List}
use Prim.Native.Nat.{ℕ}
use lib.Ieee.{Float}
use Rattle.std.specs.Prelude.{Result, Ok, Err}
use Rattle.limits.specs.Refusals.{number_of}
use Rattle.limits.specs.declared.Refusal.{Refusal}
use Rattle.mixture_kappa.specs.declared.Settings.{Settings}
use Rattle.mixture_outputs.specs.Outputs.{Outputs}
use Rattle.mixture_outputs.specs.Labels.{LabelsFirst}
use Rattle.spherical.specs.declared.Clustered.{Clustered}
use Rattle.spherical.specs.Answers.{Numbers as ClusteredNumbers, numbers_of as clusteredNumbersOf}
use Rattle.movmf.specs.declared.Fitted.{Fitted}
use Rattle.movmf.specs.Answers.{Numbers as FittedNumbers, numbers_of as fittedNumbersOf, AnswerLabelsFirst as FittedLabelsFirst}
use Rattle.auto.specs.declared.Chosen.{Chosen}
use Rattle.auto.specs.declared.NotChosen.{NotChosen}
use Rattle.auto.specs.declared.NotChosen.TheVariants.{Refused, Unscored}
use Rattle.auto.specs.Answers.{Numbers as ChosenNumbers, numbers_of as chosenNumbersOf, number_of_not_chosen}
use Rattle.auto.specs.Answers.{AnswerLabelsFirst as ChosenLabelsFirst}
use Rattle.auto.specs.Best.{KeepsBest, AnswerKeepsBest}
use Rattle.border.specs.Answers.{clustered_put, fitted_put, chosen_put, counts_of}

pub clustered_same : (found : ClusteredNumbers) (a : Result Clustered Refusal)
    → clustered_put number_of found a ≡ clusteredNumbersOf found a
clustered_same found (Ok c) = refl
clustered_same found (Err e) = refl

pub fitted_same : (found : FittedNumbers) (a : Result Fitted Refusal) → fitted_put number_of found a ≡ fittedNumbersOf found a
fitted_same found (Ok f) = refl
fitted_same found (Err e) = refl

pub chosen_same : (found : ChosenNumbers) (a : Result Chosen NotChosen)
    → chosen_put number_of_not_chosen counts_of found a ≡ chosenNumbersOf found a
chosen_same found (Ok c) = refl
chosen_same found (Err (Refused e)) = refl
chosen_same found (Err (Unscored counts)) = refl

-- what is said of an answer, wherever its numbers are put, is said of these
pub fitted_first : (m : ℕ) (found n : FittedNumbers) (a : Result Fitted Refusal) (o : Outputs) → n ≡ fitted_put number_of found a
    → FittedLabelsFirst m a o → LabelsFirst m n.refusal n.groups o
fitted_first m found n a o e h = rw (e ∙ fitted_same found a) (h found)

module _ (found n : ChosenNumbers) (a : Result Chosen NotChosen) (e : n ≡ chosen_put number_of_not_chosen counts_of found a) where
  pub chosen_first : (m : ℕ) (o : Outputs) → ChosenLabelsFirst m a o → LabelsFirst m n.refusal n.groups o
  chosen_first m o h = rw (e ∙ chosen_same found a) (h found)

  pub chosen_best : (o o' : Outputs) (weights coords : List Float) (d : ℕ) (s : Settings) (kMin kMax work workU32 : ℕ)
      → AnswerKeepsBest o weights coords d s kMin kMax work workU32 a o' → KeepsBest o weights coords d s kMin kMax work workU32 n o'
  chosen_best o o' weights coords d s kMin kMax work workU32 h = rw (e ∙ chosen_same found a) (h found)
