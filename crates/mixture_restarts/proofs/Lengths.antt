-- The kept one of the runs leaves m · k responsibilities, as each run does. By recursion on the runs. Assumes nothing.
use mathlib.Core.Path.{◌≡◌}
use mathlib.Core.List.{List}
use Prim.Native.Nat.{ℕ, zero, suc, ◌*◌}
use lib.ListN.{length}
use lib.Ieee.{Float, le}
use Rattle.mixture_kappa.specs.declared.Settings.{Settings}
use Rattle.pick.proofs.Places.{either}
use Rattle.mixture_run.specs.Mixture.{Em}
use Rattle.mixture_run.proofs.Lengths.{once_resp}
use Rattle.mixture_restarts.specs.Runs.{settings_of, run_of, runs_up_to, fit_of}

module _ (s : Settings) (weights coords : List Float) (m k d : ℕ) where
  runs_resp : (n : ℕ) → length (runs_up_to s weights coords m k d n).em.resp ≡ m * k
  unfolding runs_up_to
  runs_resp zero = once_resp (settings_of s 0) weights coords m k d
  runs_resp (suc n) =
      let held = runs_up_to s weights coords m k d n in
      let run = run_of s weights coords m k d (suc n) in
      either (λ (e : Em). length e.resp ≡ m * k) (le run.em.loglik held.em.loglik) held.em run.em (runs_resp n)
      (once_resp (settings_of s (suc n)) weights coords m k d)

  pub fit_resp : length (fit_of s weights coords m k d).em.resp ≡ m * k
  fit_resp = runs_resp 3
