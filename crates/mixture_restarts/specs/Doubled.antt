-- Document 01's count doubled, of a mixture fit: that of its warm starts. Definitions only.
use Rattle.std.specs.Prelude.{List, ℕ, Float}
use Rattle.rng.specs.SplitMix.{restart_seed_of}
use Rattle.mixture_kappa.specs.declared.Settings.{Settings}
use Rattle.counts.specs.Counts.{sum_over}
use Rattle.kmeans_lloyd.specs.Doubled.{doubled_of}
use Rattle.mixture_run.specs.Fits.{warm_rounds}

-- over the four restarts
abbrev pub doubled_in_fit : Settings → List Float → List Float → ℕ → ℕ → ℕ → ℕ
doubled_in_fit s weights coords m k d =
    sum_over (λ (t : ℕ). doubled_of weights coords m k d warm_rounds (restart_seed_of s.seed t)) 0 4
