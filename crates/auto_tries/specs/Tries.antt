-- What the functions that fit the numbers one after the other ask and promise: the tally so far, the rest of each
-- output as found, and one number more. No definition of document 01 stands on this file.
use Rattle.std.specs.Prelude.{◌≡◌, List, true, false, ℕ, ◌+◌, ◌*◌, ◌≤◌, length, drop, Float, Option, Some, None}
use Rattle.std.specs.Float.{inf}
use Rattle.std.specs.Float.Ieee.{lt}
use Rattle.counts.specs.Counts.{plus_of, AtMost, of_runs}
use Rattle.mixture_kappa.specs.declared.Settings.{Settings}
use Rattle.mixture_run.specs.Mixture.{Em}
use Rattle.limits.specs.Sizes.{Sizes}
use Rattle.kmeans_layout.specs.Sized.{half}
use Rattle.mixture_outputs.specs.Outputs.{Outputs, written}
use Rattle.mixture_outputs.specs.Lent.{Fits}
use Rattle.auto_choice.specs.Choice.{Choice, held_score, choose}
use Rattle.auto_tries.specs.Lone.{lone, score, chosen_of, counts_of, written_by}
use Rattle.auto_tries.specs.declared.Kept.{Kept}
use Rattle.auto_tries.specs.declared.Tally.{Tally}

-- a fit of k groups may be made: the sizes are within their limits, and all arrays are long enough
pub record Fittable (weights coords : List Float) (k d : ℕ) (o : Outputs) (work workU32 : ℕ) : Type 0 where
  pub sizes : Sizes (length weights) k d
  pub coords_long : length coords ≡ length weights * d
  pub outputs_long : Fits o (length weights) k d
  pub work_long : half (length weights) k d + half (length weights) k d ≤ work
  pub work_u32_long : length weights + k ≤ workU32

-- what is found is as long as k groups make it
pub record Full (m k d : ℕ) (em : Em) : Type 0 where
  pub resp : length em.resp ≡ m * k
  pub weights : length em.model.weights ≡ k
  pub directions : length em.model.directions ≡ k * d
  pub kappas : length em.model.kappas ≡ k

-- the rest of each output, past what k groups fill, is as found
pub record Tails (m k d : ℕ) (o o₀ : Outputs) : Type 0 where
  pub labels : drop m o.labels ≡ drop m o₀.labels
  pub responsibilities : drop (m * k) o.responsibilities ≡ drop (m * k) o₀.responsibilities
  pub weights : drop k o.weights ≡ drop k o₀.weights
  pub directions : drop (k * d) o.directions ≡ drop (k * d) o₀.directions
  pub concentrations : drop k o.concentrations ≡ drop k o₀.concentrations
  pub logw : drop k o.logw ≡ drop k o₀.logw

-- the choice that is held, and its log-likelihood; −infinity where there is none
abbrev pub choice_of : Option Kept → Choice
choice_of None = None
choice_of (Some n) = Some n.number

abbrev pub loglik_of : Option Kept → Float
loglik_of None = inf true
loglik_of (Some n) = n.loglik

module _ (weights coords : List Float) (d : ℕ) (s : Settings) where
  -- the log-likelihood that goes with a choice: −infinity where there is none
  abbrev pub loglik_by : Choice → Float
  loglik_by None = inf true
  loglik_by (Some n) = (lone weights coords d s n.k).em.loglik

  -- number k fitted after the tally t, with these arrays before and after: it is written where its score beats the one
  -- held
  pub record FitOfK (k : ℕ) (t q : Tally) (o o' : Outputs) : Type 0 where
    pub choice : choice_of q.kept ≡ choose (choice_of t.kept) k (score weights coords d s k)
    pub counts : q.counts ≡ plus_of t.counts (lone weights coords d s k).counts
    pub kept : lt (score weights coords d s k) (held_score (choice_of t.kept)) ≡ true
        → (loglik_of q.kept ≡ (lone weights coords d s k).em.loglik)
        × (o' ≡ written (length weights) k d (lone weights coords d s k).em o)
    pub left : lt (score weights coords d s k) (held_score (choice_of t.kept)) ≡ false → (q.kept ≡ t.kept) × (o' ≡ o)
    pub full : Full (length weights) k d (lone weights coords d s k).em
    pub small : AtMost (of_runs 4) (lone weights coords d s k).counts

  -- the first n numbers from lo on fitted, with the arrays found as o
  pub record Fitted (o : Outputs) (lo n : ℕ) (t : Tally) (o' : Outputs) : Type 0 where
    pub choice : choice_of t.kept ≡ chosen_of weights coords d s lo n
    pub loglik : loglik_of t.kept ≡ loglik_by (chosen_of weights coords d s lo n)
    pub counts : t.counts ≡ counts_of weights coords d s lo n
    pub outputs : o' ≡ written_by weights coords d s (chosen_of weights coords d s lo n) o
