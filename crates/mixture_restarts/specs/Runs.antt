-- Document 01, 'Mixture': the four runs of `movmf_with`, and which of them is kept. Definitions only.
use Rattle.std.specs.Prelude.{List, ℕ, zero, suc, Float}
use Rattle.rng.specs.SplitMix.{restart_seed_of}
use Rattle.counts.specs.Counts.{plus_of}
use Rattle.kmeans_layout.specs.Kept.{kept_of}
use Rattle.mixture_run.specs.Fits.{Once, once_of}
use Rattle.mixture_kappa.specs.declared.Settings.{Settings}

-- a run replaces the held one unless its log-likelihood is ≤ the held one's; the counts are those of both
abbrev pub keep : Once → Once → Once
keep held run =
    record {
      em = kept_of held.em.loglik run.em.loglik held.em run.em;
      counts = plus_of held.counts run.counts;
    }

-- seed + t·0x9E3779B9, modulo 2^64
abbrev pub settings_of : Settings → ℕ → Settings
settings_of s t = record { rounds = s.rounds; seed = restart_seed_of s.seed t; kappa = s.kappa }

module _ (s : Settings) (weights coords : List Float) (m k d : ℕ) where
  -- run t
  abbrev pub run_of : ℕ → Once
  run_of t = once_of (settings_of s t) weights coords m k d

  -- the first run and n more
  unfoldable pub runs_up_to : ℕ → Once
  runs_up_to zero = run_of 0
  runs_up_to (suc n) = keep (runs_up_to n) (run_of (suc n))

  -- four runs: what the fit keeps, and the counts of all of them
  abbrev pub fit_of : Once
  fit_of = runs_up_to 3
