-- Document 01, 'Spherical k-means': what a call of `spherical_kmeans` answers, and what the output arrays hold after
-- it. Definitions only.
use Rattle.std.specs.Prelude.{List, ◌++◌, ℕ, ◌*◌, length, drop, Float, Result, Ok, Err, ⊤}
use Rattle.limits.specs.declared.Refusal.{Refusal}
use Rattle.kmeans_lloyd.specs.Results.{Result as Run}
use Rattle.kmeans_restarts.specs.Restarts.{kmeans_of}
use Rattle.spherical.specs.Refusals.{refusal_of}
use Rattle.spherical.specs.declared.Clustered.{Clustered}

pub record Outcome : Type 0 where
  pub answer : Result Clustered Refusal
  pub labels : List ℕ
  pub directions : List Float

-- the arrays as found, the leaves, the settings, and the lengths of the two work arrays
module _ (labels : List ℕ) (directions weights coords : List Float) (d k rounds restarts seed work workU32 : ℕ) where
  -- entries past m labels and k·d directions keep their old contents
  abbrev pub done_with : Run → Outcome
  done_with r =
      record {
        answer = Ok (record { cohesion = r.cohesion; counts = r.counts });
        labels = r.labels ++ drop (length weights) labels;
        directions = r.centers ++ drop (k * d) directions;
      }

  -- a refusal changes no output array
  abbrev pub outcome_by : Result ⊤ Refusal → Outcome
  outcome_by (Ok x) = done_with (kmeans_of weights coords (length weights) k d rounds restarts seed)
  outcome_by (Err e) = record { answer = Err e; labels = labels; directions = directions }

  abbrev pub outcome : Outcome
  outcome = outcome_by (refusal_of weights coords d k rounds restarts (length labels) (length directions) work workU32)
