-- What the lone fits of a range count: together k · leaves · rounds begun of every warm start, of which each begins at most 50.
-- By recursion on the runs, and over the sums. Assumes nothing.
use mathlib.Core.Path.{◌≡◌, refl, ap, sym, ◌∙◌}
use mathlib.Core.List.{List}
use Prim.Native.Nat.{ℕ, zero, suc, ◌+◌, ◌*◌, ◌≤◌}
use native.Mathlib.Nat.{zero-add, mul_comm, mul_assoc, mul_left_comm, mul-le-mul_left}
use native.Mathlib.Omega.{arith}
use lib.ListN.{length}
use lib.Ieee.{Float}
use Rattle.rng.specs.SplitMix.{restart_seed_of}
use Rattle.counts.specs.Counts.{sum_over}
use Rattle.counts.proofs.Sums.{sums_add, sums_most}
use Rattle.kmeans_lloyd.proofs.Runs.{run_counts, run_most}
use Rattle.mixture_kappa.specs.declared.Settings.{Settings}
use Rattle.mixture_run.specs.Fits.{once_of}
use Rattle.mixture_restarts.specs.Runs.{run_of, runs_up_to}
use Rattle.auto_tries.specs.Lone.{lone}
use Rattle.auto.specs.Best.{begun, products}

two_hundred : sum_over (λ (t : ℕ). 50) 0 4 ≡ 200
unfolding sum_over
two_hundred = refl

module _ (weights coords : List Float) (d : ℕ) (s : Settings) where
  -- the products of one run
  abbrev worth : ℕ → ℕ → ℕ
  worth k t = k * length weights * begun weights coords d s k t

  one_run : (k t : ℕ) → let r = run_of s weights coords (length weights) k d t in r.counts.made + r.counts.saved ≡ worth k t
  unfolding once_of
  one_run k t = run_counts weights coords (length weights) k d 50 (restart_seed_of s.seed t)

  -- of the first run and n more
  runs_products : (k n : ℕ) → let r = runs_up_to s weights coords (length weights) k d n in
      r.counts.made + r.counts.saved ≡ sum_over (worth k) 0 (suc n)
  unfolding runs_up_to sum_over
  runs_products k zero = one_run k 0 ∙ sym (zero-add (worth k 0))
  runs_products k (suc n) =
      let last = one_run k (suc n) ∙ ap (worth k) (sym (zero-add (suc n))) in
      omega (arith, runs_products k n, last)

  lone_products : (k : ℕ) → (lone weights coords d s k).counts.made + (lone weights coords d s k).counts.saved
      ≡ products weights coords d s k
  lone_products k = runs_products k 3

  -- four warm starts of 50 rounds at most
  products_most : (k : ℕ) → products weights coords d s k ≤ 200 * length weights * k
  products_most k =
      let m = length weights in
      let most : sum_over (worth k) 0 4 ≤ k * m * sum_over (λ (t : ℕ). 50) 0 4 =
      sums_most (worth k) (λ (t : ℕ). 50) (k * m)
      (λ t. mul-le-mul_left (k * m) (run_most weights coords m k d 50 (restart_seed_of s.seed t))) 0 4 in
      let same : k * m * sum_over (λ (t : ℕ). 50) 0 4 ≡ 200 * m * k = rw two_hundred (simp (mul_assoc, mul_comm, mul_left_comm)) in
      omega (arith, most, same)

  -- ---- over a range
  abbrev made : ℕ → ℕ
  made j = (lone weights coords d s j).counts.made

  abbrev saved : ℕ → ℕ
  saved j = (lone weights coords d s j).counts.saved

  pub work_sum : (lo n : ℕ) → sum_over made lo n + sum_over saved lo n ≡ sum_over (products weights coords d s) lo n
  work_sum lo n = sums_add made saved (products weights coords d s) lone_products lo n

  pub work_most : (lo n : ℕ) → sum_over (products weights coords d s) lo n ≤ 200 * length weights * sum_over (λ (j : ℕ). j) lo n
  work_most lo n = sums_most (products weights coords d s) (λ (j : ℕ). j) (200 * length weights) products_most lo n
