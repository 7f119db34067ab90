-- What the runs of a call leave in their areas. No definition of document 01 stands on this file.
use Rattle.std.specs.Prelude.{◌≡◌, ℕ}
use Rattle.counts.specs.Counts.{plus_of, AtMost, of_runs}
use Rattle.kmeans_layout.specs.Kept.{kept_of}
use Rattle.kmeans_layout.specs.Areas.{Same}
use Rattle.kmeans_layout.specs.declared.Area.{Area}
use Rattle.kmeans_lloyd.specs.Results.{Result}
use Rattle.kmeans_restarts.specs.Restarts.{kmeans_of}
use Rattle.kmeans_restarts.specs.declared.Restarts.{Restarts}

-- the restarts of the definition, with the sizes and leaves of an area
abbrev pub runs_in : Area → (rounds restarts seed : ℕ) → Result
runs_in a rounds restarts seed =
    kmeans_of a.leaves.weights.now a.leaves.coords.now a.shape.m a.shape.k a.shape.d rounds restarts seed

-- after t runs the held area a' has what this run found, with the sizes and leaves of the area a
pub record Holds (result : Result) (a a' : Area) (t : ℕ) (h : Restarts) : Type 0 where
  pub same : Same a a'
  pub labels : a'.labels.now ≡ result.labels
  pub centers : a'.centers.now ≡ result.centers
  pub cohesion : h.held.value ≡ result.cohesion
  pub counts : h.held.counts ≡ result.counts
  pub generator : h.generator ≡ result.generator
  pub small : AtMost (of_runs t) h.held.counts

-- with this run more: the area that is held then, a or the run's own
pub record Restarted (run : Result) (a a' : Area) (h h' : Restarts) : Type 0 where
  pub same : Same a a'
  pub labels : a'.labels.now ≡ kept_of h.held.value run.cohesion a.labels.now run.labels
  pub centers : a'.centers.now ≡ kept_of h.held.value run.cohesion a.centers.now run.centers
  pub cohesion : h'.held.value ≡ kept_of h.held.value run.cohesion h.held.value run.cohesion
  pub counts : h'.held.counts ≡ plus_of h.held.counts run.counts
  pub generator : h'.generator ≡ run.generator
  pub small : AtMost (of_runs 1) run.counts
