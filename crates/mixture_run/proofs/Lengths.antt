-- A run leaves m · k responsibilities, whatever its rounds: before the first there are as many, and each round makes as many anew. By
-- recursion on the rounds. Assumes nothing.
use mathlib.Core.Path.{◌≡◌}
use mathlib.Core.List.{List}
use Prim.Native.Nat.{ℕ, zero, suc, ◌+◌, ◌*◌}
use lib.ListN.{length, length-replicate}
use lib.Ieee.{Float}
use Rattle.float.specs.Arithmetic.{plus_zero}
use Rattle.pick.proofs.Places.{either}
use Rattle.mixture_kappa.specs.declared.Kappa.{Kappa}
use Rattle.mixture_kappa.specs.declared.Settings.{Settings}
use Rattle.mixture_run.specs.Mixture.{Em, log_coefficients, stops_at, em_round, em_from}
use Rattle.mixture_run.specs.Fits.{warm_of, start_from, once_of}
use Rattle.mixture_run.proofs.Expected.{resp_length}

rounds_resp : (kappa : Kappa) (weights coords : List Float) (m k d n it : ℕ) (s : Em) → length s.resp ≡ m * k
    → length (em_from kappa weights coords m k d n it s).resp ≡ m * k
unfolding em_from
rounds_resp kappa weights coords m k d zero it s h = h
rounds_resp kappa weights coords m k d (suc n) it s h =
    let next = em_round kappa weights coords m k d s.model in
    let l : length next.resp ≡ m * k = resp_length coords k d (log_coefficients k d s.model) s.model weights m in
    either (λ (e : Em). length e.resp ≡ m * k) (stops_at it s.loglik next.loglik) next
    (em_from kappa weights coords m k d n (it + 1) next) l (rounds_resp kappa weights coords m k d n (it + 1) next l)

pub once_resp : (s : Settings) (weights coords : List Float) (m k d : ℕ) → length (once_of s weights coords m k d).em.resp ≡ m * k
unfolding once_of
once_resp s weights coords m k d =
    rounds_resp s.kappa weights coords m k d s.rounds 0
    (start_from s.kappa weights coords m k d (warm_of weights coords m k d s.seed)) (length-replicate (m * k) plus_zero)
