-- What crosses the border to C: a Kappa, and the numbers of an answer as they are lent. Of the entries' own refusals the
-- numbers of each case of an answer are those of the entries' own maps (proofs/Put.antt). Definitions only.
use Rattle.std.specs.Prelude.{List, Bool, true, false, cond, ℕ, eqb, leb, get_or, Float}
use Rattle.std.specs.Prelude.{Result, Ok, Err, Option, None, Some}
use Rattle.counts.specs.declared.Counts.{Counts}
use Rattle.limits.specs.declared.Refusal.{Refusal}
use Rattle.limits.specs.declared.Refusal.TheVariants.{Kappa as NoKappa}
use Rattle.mixture_kappa.specs.declared.Kappa.{Kappa}
use Rattle.mixture_kappa.specs.declared.Kappa.TheVariants.{Free, Shared}
use Rattle.spherical.specs.declared.Clustered.{Clustered}
use Rattle.spherical.specs.Answers.{Numbers as ClusteredNumbers}
use Rattle.mixture_outputs.specs.Outputs.{Outputs}
use Rattle.movmf.specs.Outcome.{Outcome as FittedOutcome}
use Rattle.movmf.specs.Answers.{Numbers as FittedNumbers}
use Rattle.movmf.specs.declared.Fitted.{Fitted}
use Rattle.auto.specs.Outcome.{Outcome as ChosenOutcome}
use Rattle.auto.specs.Answers.{Numbers as ChosenNumbers}
use Rattle.auto.specs.declared.Chosen.{Chosen}
use Rattle.auto.specs.declared.NotChosen.{NotChosen}
use Rattle.auto.specs.declared.NotChosen.TheVariants.{Refused, Unscored}

-- a Kappa crosses the border as its kind: 0 is Free, 1 is Shared
abbrev pub kappa_by : Bool → Kappa
kappa_by true = Shared
kappa_by false = Free

abbrev pub kappa_of : ℕ → Kappa
kappa_of kind = kappa_by (eqb kind 1)

abbrev pub kind_ok : ℕ → Bool
kind_ok kind = leb kind 1

-- any other kind is refused with 13
abbrev pub checked_kappa : ℕ → Result Kappa Refusal
checked_kappa kind = cond (eqb kind 0) (Ok Free) (cond (eqb kind 1) (Ok Shared) (Err NoKappa))

-- the call with this Kappa; a refused one is answered before anything else is looked at, and changes no output array
abbrev pub fitted_with : Result Kappa Refusal → Outputs → (Kappa → FittedOutcome) → FittedOutcome
fitted_with (Ok kappa) o call = call kappa
fitted_with (Err e) o call = record { answer = Err e; outputs = o }

abbrev pub chosen_with : Result Kappa Refusal → Outputs → (Kappa → ChosenOutcome) → ChosenOutcome
chosen_with (Ok kappa) o call = call kappa
chosen_with (Err e) o call = record { answer = Err (Refused e); outputs = o }

-- the call with the Kappa of this kind, refused where there is none
abbrev pub fitted_by : (kind : ℕ) → Outputs → (Kappa → FittedOutcome) → FittedOutcome
fitted_by kind o call = fitted_with (checked_kappa kind) o call

abbrev pub chosen_by : (kind : ℕ) → Outputs → (Kappa → ChosenOutcome) → ChosenOutcome
chosen_by kind o call = chosen_with (checked_kappa kind) o call

-- the two counts as they are lent: made, then saved
abbrev pub counts_in : List ℕ → Counts
counts_in lent = record { made = get_or lent 0 0; saved = get_or lent 1 0 }

-- the refusal that is handed back, and what the lent numbers hold
abbrev pub clustered : ℕ → Float → List ℕ → ClusteredNumbers
clustered refusal cohesion lent = record { refusal = refusal; cohesion = cohesion; counts = counts_in lent }

abbrev pub fitted : ℕ → ℕ → Float → List ℕ → FittedNumbers
fitted refusal groups loglik lent =
    record { refusal = refusal; groups = groups; loglik = loglik; counts = counts_in lent }

abbrev pub chosen : ℕ → ℕ → Float → Float → List ℕ → ChosenNumbers
chosen refusal groups loglik score lent =
    record { refusal = refusal; groups = groups; loglik = loglik; score = score; counts = counts_in lent }

-- the numbers of an answer over those found, whatever its refusals are: each has a number, and some have counts
abbrev pub clustered_put : {E : Type 0} → (E → ℕ) → ClusteredNumbers → Result Clustered E → ClusteredNumbers
clustered_put number found (Err e) =
    record { refusal = number e; cohesion = found.cohesion; counts = found.counts }
clustered_put number found (Ok c) = record { refusal = 0; cohesion = c.cohesion; counts = c.counts }

abbrev pub fitted_put : {E : Type 0} → (E → ℕ) → FittedNumbers → Result Fitted E → FittedNumbers
fitted_put number found (Err e) =
    record { refusal = number e; groups = found.groups; loglik = found.loglik; counts = found.counts }
fitted_put number found (Ok f) = record { refusal = 0; groups = f.k; loglik = f.loglik; counts = f.counts }

abbrev pub counts_or : Counts → Option Counts → Counts
counts_or found None = found
counts_or found (Some counts) = counts

abbrev pub counts_of : NotChosen → Option Counts
counts_of (Refused e) = None
counts_of (Unscored counts) = Some counts

abbrev pub chosen_put : {E : Type 0} → (E → ℕ) → (E → Option Counts) → ChosenNumbers → Result Chosen E → ChosenNumbers
chosen_put number counts found (Err e) =
    record {
      refusal = number e;
      groups = found.groups;
      loglik = found.loglik;
      score = found.score;
      counts = counts_or found.counts (counts e);
    }
chosen_put number counts found (Ok c) =
    record { refusal = 0; groups = c.k; loglik = c.loglik; score = c.score; counts = c.counts }
