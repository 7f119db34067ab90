-- The two ends of `movmf_with`, by the number of the refusal. Over plain lists. Assumes nothing.
use mathlib.Core.Path.{◌≡◌, refl, sym, subst}
use mathlib.Core.List.{List}
use mathlib.Core.Bool.{true}
use Prim.Native.Nat.{ℕ, ◌≤◌}
use lib.ListN.{length}
use lib.Ieee.{Float}
use Rattle.limits.specs.Limits.{groups_ok, most_groups}
use Rattle.limits.proofs.Limits.{groups_met, numbered}
use Rattle.mixture_kappa.specs.declared.Settings.{Settings}
use Rattle.mixture_restarts.specs.Runs.{fit_of}
use Rattle.mixture_outputs.specs.Outputs.{Outputs, arrays, lengths_of}
use Rattle.mixture_outputs.specs.declared.Lengths.{Lengths}
use Rattle.mixture_outputs.proofs.Refusals.{Ready, ready}
use Rattle.movmf.specs.Refusals.{refusal_of}
use Rattle.movmf.specs.Outcome.{Outcome, outcome_by, outcome}
use Rattle.mixture_restarts.proofs.Lengths.{fit_resp}
use Rattle.mixture_outputs.proofs.Labels.{written_first}
use Rattle.movmf.specs.Answers.{AnswerLabelsFirst}
use Rattle.movmf.specs.declared.Fitted.{Fitted}
use Rattle.std.specs.Prelude.{Result, Ok, Err, ⊤}
use Rattle.limits.specs.declared.Refusal.{Refusal}

-- a number of groups that is admitted is one to 64
pub few : (k m : ℕ) → groups_ok k m ≡ true → (1 ≤ k) × (k ≤ most_groups)
few k m e = let g = groups_met k m e in (g.0, g.1)

pub admitted : (weights coords : List Float) (d k : ℕ) (s : Settings) (l : Lengths) → refusal_of weights coords d k s l ≡ Ok tt
    → Ready (groups_ok k (length weights)) weights coords d k s.rounds l
admitted weights coords d k s l e = ready (groups_ok k (length weights)) weights coords d k s l (few k (length weights)) e

module _ (o : Outputs) (weights coords : List Float) (d k : ℕ) (s : Settings) (work workU32 : ℕ) where
  -- its labels, by the number of the refusal
  first_by : (q : Result ⊤ Refusal) → q ≡ refusal_of weights coords d k s (lengths_of o work workU32)
      → let c = outcome_by o weights coords d k s work workU32 q in AnswerLabelsFirst (length weights) c.answer c.outputs
  first_by (Ok x) e found z =
      let r = admitted weights coords d k s (lengths_of o work workU32) (sym e) in
      written_first (length weights) k d (fit_of s weights coords (length weights) k d).em o (few k (length weights) r.admitted).0
      (fit_resp s weights coords (length weights) k d) z
  first_by (Err q) e found z = absurd (numbered q z)

  pub first_is : (a : Result Fitted Refusal) (o' : Outputs) → ◌≡◌ {A = Outcome} (record { answer = a; outputs = o' })
      (outcome o weights coords d k s work workU32)
      → AnswerLabelsFirst (length weights) a o'
  first_is a o' e =
      subst (λ (x : Outcome). AnswerLabelsFirst (length weights) x.answer x.outputs) (sym e)
      (first_by (refusal_of weights coords d k s (lengths_of o work workU32)) refl)

-- of the labels and the responsibilities alone
pub first_of : (m : ℕ) (a : Result Fitted Refusal) (o : Outputs) (labels : List ℕ) (responsibilities : List Float) → AnswerLabelsFirst m a o
    → labels ≡ o.labels → responsibilities ≡ o.responsibilities
    → AnswerLabelsFirst m a (arrays labels responsibilities o.weights o.directions o.concentrations o.logw)
first_of m a o labels responsibilities first el er = rw (el, er) first
