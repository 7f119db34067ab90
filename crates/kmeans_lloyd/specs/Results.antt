-- Document 01, 'Spherical k-means': one run, from its seeds to its cohesion. Definitions only.
use Rattle.std.specs.Prelude.{List, ℕ, Float}
use Rattle.counts.specs.declared.Counts.{Counts}
use Rattle.kmeans_seeding.specs.Seeding.{Seeds, seeds_of}
use Rattle.kmeans_lloyd.specs.Lloyd.{Run, lloyd_of}
use Rattle.kmeans_sums.specs.Cohesion.{cohesion_of}

-- labels, centres, cohesion, the counts and the rounds begun, and the generator's word after it
pub record Result : Type 0 where
  pub labels : List ℕ
  pub centers : List Float
  pub cohesion : Float
  pub counts : Counts
  pub begun : ℕ
  pub generator : ℕ

module _ (weights coords : List Float) (m k d : ℕ) where
  abbrev pub result_by : Run → ℕ → Result
  result_by r generator =
      record {
        labels = r.state.labels;
        centers = r.state.centers;
        cohesion = cohesion_of weights coords r.state.labels m k d;
        counts = r.counts;
        begun = r.begun;
        generator = generator;
      }

  abbrev pub result_from : (rounds : ℕ) → Seeds → Result
  result_from rounds s = result_by (lloyd_of weights coords m k d rounds s.centers) s.generator

  unfoldable pub result_of : (rounds generator : ℕ) → Result
  result_of rounds generator = result_from rounds (seeds_of weights coords m k d generator)
