-- What made and saved of a call of `spherical_kmeans` come to: k · leaves · rounds begun, summed over the restarts.
-- Definitions only.
use Rattle.std.specs.Prelude.{◌≡◌, List, ℕ, ◌+◌, ◌*◌, max, length, Float, Result}
use Rattle.counts.specs.Counts.{sum_over}
use Rattle.kmeans_lloyd.specs.Results.{result_of}
use Rattle.kmeans_restarts.specs.Restarts.{generator_before}
use Rattle.spherical.specs.Answers.{Numbers, numbers_of}
use Rattle.limits.specs.declared.Refusal.{Refusal}
use Rattle.spherical.specs.declared.Clustered.{Clustered}

module _ (weights coords : List Float) (d k rounds seed : ℕ) where
  -- the rounds begun by run t
  abbrev pub begun : ℕ → ℕ
  begun t =
      let m = length weights in
      (result_of weights coords m k d rounds (generator_before weights coords m k d rounds seed t)).begun

  -- k · leaves · rounds begun, over the restarts; 0 restarts act as 1
  abbrev pub products : ℕ → ℕ
  products restarts = sum_over (λ (t : ℕ). k * length weights * begun t) 0 (max restarts 1)

  -- of an answer that is no refusal
  abbrev pub CountsEveryRound : ℕ → Result Clustered Refusal → Type 0
  CountsEveryRound restarts answer =
      (found : Numbers) → let n = numbers_of found answer in
      n.refusal ≡ 0 → n.counts.made + n.counts.saved ≡ products restarts
