-- A fit of leaves within the limits doubles none, for no run of such leaves does. Assumes nothing.
use mathlib.Core.Path.{◌≡◌}
use mathlib.Core.List.{List}
use Prim.Native.Nat.{ℕ, ◌≤◌}
use lib.ListN.{length}
use lib.Ieee.{Float}
use Rattle.rng.specs.SplitMix.{restart_seed_of}
use Rattle.limits.specs.Limits.{LeavesOk}
use Rattle.mixture_kappa.specs.declared.Settings.{Settings}
use Rattle.mixture_run.specs.Fits.{warm_rounds}
use Rattle.counts.proofs.Sums.{none_over}
use Rattle.kmeans_lloyd.proofs.Doubled.{never_doubled}
use Rattle.mixture_restarts.specs.Doubled.{doubled_in_fit}

pub fit_never_doubled : (s : Settings) (weights coords : List Float) (d k : ℕ) → LeavesOk weights coords d → 1 ≤ k → k ≤ length weights
    → doubled_in_fit s weights coords (length weights) k d ≡ 0
fit_never_doubled s weights coords d k ok some below =
    none_over _ 0 4 (λ (t : ℕ) least most. (never_doubled weights coords d k warm_rounds (restart_seed_of s.seed t) ok some below).none)
