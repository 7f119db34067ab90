-- Document 01, 'Spherical k-means': the restarts of `spherical_kmeans`, one generator through all of them. Definitions
-- only.
use Rattle.std.specs.Prelude.{List, ℕ, zero, suc, ◌+◌, ◌-◌, max, Float}
use Rattle.counts.specs.Counts.{plus_of}
use Rattle.kmeans_layout.specs.Kept.{kept_of}
use Rattle.kmeans_lloyd.specs.Results.{Result, result_of}

-- what one of two runs found, with the counts and the rounds begun of both, and the generator moved on
abbrev pub counted : Result → Result → Result → Result
counted kept held run =
    record {
      labels = kept.labels;
      centers = kept.centers;
      cohesion = kept.cohesion;
      counts = plus_of held.counts run.counts;
      begun = held.begun + run.begun;
      generator = run.generator;
    }

-- a run replaces the held one unless its cohesion is ≤ the held one's
abbrev pub keep : Result → Result → Result
keep held run = counted (kept_of held.cohesion run.cohesion held run) held run

module _ (weights coords : List Float) (m k d rounds : ℕ) where
  -- the first run and n more
  unfoldable pub restarts_up_to : (seed n : ℕ) → Result
  restarts_up_to seed zero = result_of weights coords m k d rounds seed
  restarts_up_to seed (suc n) =
      let held = restarts_up_to seed n in
      keep held (result_of weights coords m k d rounds held.generator)

  -- 0 restarts act as 1
  abbrev pub kmeans_of : (restarts seed : ℕ) → Result
  kmeans_of restarts seed = restarts_up_to seed (max restarts 1 - 1)

  -- the generator before run t: the seed, and then what the runs before have left
  abbrev pub generator_before : (seed t : ℕ) → ℕ
  generator_before seed zero = seed
  generator_before seed (suc t) = (restarts_up_to seed t).generator
