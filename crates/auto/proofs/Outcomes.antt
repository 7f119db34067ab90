-- The two ends of `movmf_auto_with`, by the number of the refusal: the arrays as found, or what all numbers of the range leave; and
-- the ends of the range. Assumes nothing.
use mathlib.Core.Path.{◌≡◌, refl, ap, sym, subst, ◌∙◌}
use mathlib.Core.List.{List}
use mathlib.Core.Bool.{true}
use Prim.Native.Nat.{ℕ, ◌+◌, ◌-◌, ◌≤◌}
use native.Mathlib.Omega.{arith}
use lib.Dec.{leb}
use lib.ListN.{length}
use lib.Ieee.{Float}
use borrow.Author.Tests.{leb-true}
use Rattle.counts.specs.declared.Counts.{Counts}
use Rattle.limits.specs.Limits.{most_groups}
use Rattle.mixture_kappa.specs.declared.Settings.{Settings}
use Rattle.mixture_outputs.specs.Outputs.{Outputs, arrays, lengths_of}
use Rattle.mixture_outputs.specs.declared.Lengths.{Lengths}
use Rattle.mixture_restarts.proofs.Lengths.{fit_resp}
use Rattle.mixture_outputs.specs.Labels.{LabelsFirst}
use Rattle.mixture_outputs.proofs.Refusals.{Ready, ready}
use Rattle.mixture_outputs.proofs.Labels.{written_first}
use Rattle.std.specs.Prelude.{Option, Some, None, Result, Ok, ⊤}
use Rattle.limits.specs.declared.Refusal.{Refusal}
use Rattle.auto_choice.specs.Choice.{Choice, highest, lowest}
use Rattle.auto_tries.specs.Lone.{lone, chosen_of, counts_of}
use Rattle.auto_tries.specs.Tries.{choice_of, loglik_of, loglik_by, Fitted}
use Rattle.auto_tries.specs.declared.Kept.{Kept}
use Rattle.auto_tries.specs.declared.Tally.{Tally}
use Rattle.auto.specs.Refusals.{refusal_of}
use Rattle.auto.specs.Outcome.{Outcome, answer_by, ended, outcome_in, outcome}
use Rattle.auto.specs.Answers.{Numbers, numbers_of, AnswerLabelsFirst}
use Rattle.auto.specs.Best.{Best, AnswerKeepsBest}
use Rattle.auto.specs.Tallied.{answer_from, answer_of}
use Rattle.auto.specs.declared.Chosen.{Chosen}
use Rattle.auto.specs.declared.NotChosen.{NotChosen}
use Rattle.auto.proofs.Bests.{ended_best}

-- ---- the range
pub highest_some : (kMax m hi : ℕ) → hi ≡ highest kMax m → 1 ≤ hi
highest_some kMax m hi e = omega arith

pub lowest_some : (kMin hi lo : ℕ) → lo ≡ lowest kMin hi → 1 ≤ hi → 1 ≤ lo
lowest_some kMin hi lo e h = omega arith

pub lowest_most : (kMin hi lo : ℕ) → lo ≡ lowest kMin hi → lo ≤ hi
lowest_most kMin hi lo e = omega arith

-- where nothing is refused there is room for the greatest number of groups
pub admitted : (weights coords : List Float) (d hi : ℕ) (s : Settings) (l : Lengths) → 1 ≤ hi → refusal_of weights coords d hi s l ≡ Ok tt
    → Ready (leb hi most_groups) weights coords d hi s.rounds l
admitted weights coords d hi s l some e =
    ready (leb hi most_groups) weights coords d hi s l (λ (t : leb hi most_groups ≡ true). (some, leb-true hi most_groups t)) e

-- ---- what the code answers after the last number is what goes with the choice
tallied : (weights coords : List Float) (d : ℕ) (s : Settings) (counts : Counts) (kept : Option Kept)
    → loglik_of kept ≡ loglik_by weights coords d s (choice_of kept)
    → answer_from kept counts ≡ answer_by weights coords d s counts (choice_of kept)
tallied weights coords d s counts None e = refl
tallied weights coords d s counts (Some n) e =
    ap (λ (x : Float). Ok (record { k = n.number.k; loglik = x; score = n.number.score; counts = counts })) e

-- ---- the ends, the range from lo to hi
module _ (o : Outputs) (weights coords : List Float) (d kMin kMax : ℕ) (s : Settings) (work workU32 lo hi : ℕ)
    (eh : hi ≡ highest kMax (length weights)) (el : lo ≡ lowest kMin hi) where
  abbrev code : Result ⊤ Refusal
  code = refusal_of weights coords d hi s (lengths_of o work workU32)

  abbrev whole : Outcome
  whole = outcome o weights coords d s kMin kMax work workU32

  in_range : outcome_in o weights coords d s lo hi work workU32 ≡ whole
  in_range = rw (el, eh)

  module _
      (t : Tally) (r : Result Chosen NotChosen) (o' : Outputs) (fit : Fitted weights coords d s o lo (hi + 1 - lo) t o')
      (er : r ≡ answer_of t) where
    done_in : ◌≡◌ {A = Outcome} (record { answer = r; outputs = o' }) (ended o weights coords d s lo hi)
    done_in =
        let c = chosen_of weights coords d s lo (hi + 1 - lo) in
        let n = counts_of weights coords d s lo (hi + 1 - lo) in
        let same : loglik_of t.kept ≡ loglik_by weights coords d s (choice_of t.kept) =
        fit.loglik ∙ ap (loglik_by weights coords d s) (sym fit.choice) in
        let is : r ≡ answer_by weights coords d s n c =
        er ∙ tallied weights coords d s t.counts t.kept same ∙ ap (λ (x : Choice). answer_by weights coords d s t.counts x) fit.choice
        ∙ ap (λ (x : Counts). answer_by weights coords d s x c) fit.counts in
        rw (is, fit.outputs)

    pub done : code ≡ Ok tt → ◌≡◌ {A = Outcome} (record { answer = r; outputs = o' }) whole
    done z =
        let f : ◌≡◌ {A = Outcome} (record { answer = r; outputs = o' }) (outcome_in o weights coords d s lo hi work workU32) =
        rw z done_in in
        f ∙ in_range

    -- what holds of the best of the range holds of the call's own answer
    best_in : (found : Numbers) → Best weights coords d s lo hi (numbers_of found r) o o'
    best_in found =
        subst (λ (x : Outcome). Best weights coords d s lo hi (numbers_of found x.answer) o x.outputs) (sym done_in)
        (ended_best o weights coords d s lo hi (lowest_most kMin hi lo el) found)

    pub done_best : AnswerKeepsBest o weights coords d s kMin kMax work workU32 r o'
    done_best found z = let c = best_in found in rw (el, eh) at c

    -- the arrays are those of the kept lone fit
    pub done_first : AnswerLabelsFirst (length weights) r o'
    done_first found z =
        let b = best_in found in
        let m = length weights in
        let k = (numbers_of found r).groups in
        let first = lowest_some kMin hi lo el (highest_some kMax m hi eh) in
        subst (λ (x : Outputs). LabelsFirst m 0 k x) (sym (b.values z).2)
        (written_first m k d (lone weights coords d s k).em o (omega (arith, first, (b.kept_is_best z).least))
        (fit_resp s weights coords m k d)) refl

-- ---- of arrays that hold the same
pub best_of : (o : Outputs) (weights coords : List Float) (d : ℕ) (s : Settings) (kMin kMax work workU32 : ℕ) (a : Result Chosen NotChosen)
    (o' : Outputs) (labels : List ℕ) (responsibilities groupWeights directions concentrations logw : List Float)
    → AnswerKeepsBest o weights coords d s kMin kMax work workU32 a o' → labels ≡ o'.labels → responsibilities ≡ o'.responsibilities
    → groupWeights ≡ o'.weights → directions ≡ o'.directions → concentrations ≡ o'.concentrations → logw ≡ o'.logw
    → AnswerKeepsBest o weights coords d s kMin kMax work workU32 a
    (arrays labels responsibilities groupWeights directions concentrations logw)
best_of o weights coords d s kMin kMax work workU32 a o' labels responsibilities groupWeights directions concentrations logw best
    el er ew ed ec eg = rw (el, er, ew, ed, ec, eg) best

pub first_of : (m : ℕ) (a : Result Chosen NotChosen) (o : Outputs) (labels : List ℕ) (responsibilities : List Float)
    → AnswerLabelsFirst m a o → labels ≡ o.labels → responsibilities ≡ o.responsibilities
    → AnswerLabelsFirst m a (arrays labels responsibilities o.weights o.directions o.concentrations o.logw)
first_of m a o labels responsibilities first el er = rw (el, er) first
