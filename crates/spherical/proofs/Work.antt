-- What the restarts count: the products made and those saved are together k · m for each round begun, over all runs. By
-- recursion on the restarts, from the same of each run. Assumes nothing.
use mathlib.Core.Path.{◌≡◌, ap, sym, ◌∙◌}
use mathlib.Core.List.{List}
use Prim.Native.Nat.{ℕ, zero, suc, ◌+◌, ◌*◌, ◌-◌, max}
use native.Mathlib.Nat.{zero-add}
use native.Mathlib.Omega.{arith}
use lib.ListN.{length}
use lib.Ieee.{Float}
use Rattle.counts.specs.Counts.{sum_over}
use Rattle.kmeans_lloyd.proofs.Runs.{run_counts}
use Rattle.kmeans_restarts.specs.Restarts.{restarts_up_to, kmeans_of, generator_before}
use Rattle.spherical.specs.Work.{begun, products}

module _ (weights coords : List Float) (d k rounds seed : ℕ) where
  abbrev m : ℕ
  m = length weights

  -- the products of run t
  abbrev worth : ℕ → ℕ
  worth t = k * m * begun weights coords d k rounds seed t

  -- of the first run and n more
  runs_products : (n : ℕ) → let r = restarts_up_to weights coords m k d rounds seed n in
      r.counts.made + r.counts.saved ≡ sum_over worth 0 (suc n)
  unfolding restarts_up_to sum_over
  runs_products zero = run_counts weights coords m k d rounds seed ∙ sym (zero-add (worth 0))
  runs_products (suc n) =
      let generator = generator_before weights coords m k d rounds seed (suc n) in
      let last = run_counts weights coords m k d rounds generator ∙ ap worth (sym (zero-add (suc n))) in
      omega (arith, runs_products n, last)

  pub made_and_saved : (restarts : ℕ) → let r = kmeans_of weights coords m k d rounds restarts seed in
      r.counts.made + r.counts.saved ≡ products weights coords d k rounds seed restarts
  made_and_saved restarts =
      let e : suc (max restarts 1 - 1) ≡ max restarts 1 = omega arith in
      runs_products (max restarts 1 - 1) ∙ ap (sum_over worth 0) e
