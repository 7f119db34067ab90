-- The rounds until the log-likelihood stands: the rounds that are left, after one that is the last or is not, and where none is left.
-- Assumes nothing.
use mathlib.Core.Path.{◌≡◌, ap, sym, ◌∙◌}
use mathlib.Core.List.{List}
use mathlib.Core.Bool.{Bool, true, false}
use Prim.Native.Nat.{ℕ, suc, ◌+◌}
use lib.Ieee.{Float}
use Rattle.mixture_run.specs.Mixture.{Em, em_round, stops_at, em_from}
use Rattle.mixture_kappa.specs.declared.Kappa.{Kappa}

module _ (kappa : Kappa) (weights coords : List Float) (m k d : ℕ) where
  module _ (n n' it : ℕ) (s s' : Em) (stops : Bool) (e : n ≡ suc n') (r : s' ≡ em_round kappa weights coords m k d s.model)
      (by : stops ≡ stops_at it s.loglik s'.loglik) where
    -- whether the round is the last, said of what the definition leaves
    stops_is : (b : Bool) → stops ≡ b → stops_at it s.loglik (em_round kappa weights coords m k d s.model).loglik ≡ b
    stops_is b f = ap (λ (x : Em). stops_at it s.loglik x.loglik) (sym r) ∙ sym by ∙ f

    pub em_turn : stops ≡ false → em_from kappa weights coords m k d n' (it + 1) s' ≡ em_from kappa weights coords m k d n it s
    unfolding em_from
    em_turn f = rw (e, stops_is false f) (ap (em_from kappa weights coords m k d n' (it + 1)) r)

    pub em_stop : stops ≡ true → s' ≡ em_from kappa weights coords m k d n it s
    unfolding em_from
    em_stop f = rw (e, stops_is true f) r

  pub em_end : (n it : ℕ) (s : Em) → n ≡ 0 → s ≡ em_from kappa weights coords m k d n it s
  unfolding em_from
  em_end n it s e = rw e
