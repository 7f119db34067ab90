-- Document 01, 'Choosing the number of groups': the lone fit of each number of groups, its score, and the choice among
-- the scores. The lone fit takes nothing from another number, nor from the output and work arrays. Definitions only.
use Rattle.std.specs.Prelude.{List, ℕ, length, Float, Some, None}
use Rattle.counts.specs.Counts.{counts_over}
use Rattle.counts.specs.declared.Counts.{Counts}
use Rattle.mixture_kappa.specs.declared.Settings.{Settings}
use Rattle.mixture_run.specs.Fits.{Once}
use Rattle.mixture_restarts.specs.Runs.{fit_of}
use Rattle.mixture_outputs.specs.Outputs.{Outputs, written}
use Rattle.auto_choice.specs.Choice.{Choice, score_of, chosen}

module _ (weights coords : List Float) (d : ℕ) (s : Settings) where
  -- the lone fit of k, and its score
  abbrev pub lone : ℕ → Once
  lone k = fit_of s weights coords (length weights) k d

  abbrev pub score : ℕ → Float
  score k = score_of s.kappa k d weights (lone k).em.loglik

  -- of the first n numbers from lo on: the choice among their scores, and the counts of their lone fits
  abbrev pub chosen_of : (lo n : ℕ) → Choice
  chosen_of lo n = chosen score lo n

  abbrev pub counts_of : (lo n : ℕ) → Counts
  counts_of lo n = counts_over (λ (k : ℕ). (lone k).counts) lo n

  -- the arrays: with no number as found, else the kept lone fit written into them
  abbrev pub written_by : Choice → Outputs → Outputs
  written_by None o = o
  written_by (Some n) o = written (length weights) n.k d (lone n.k).em o
