-- What the functions that add the leaves up promise. No definition of document 01 stands on this file.
use Rattle.std.specs.Prelude.{◌≡◌, ℕ, get_or}
use Rattle.std.specs.Float.{nan}
use Rattle.rows.specs.Rows.{row_of}
use Rattle.kmeans_sums.specs.Sums.{add_leaf, count_one, sums_up_to, counts_up_to}
use Rattle.kmeans_layout.specs.Areas.{state_of, Same}
use Rattle.kmeans_layout.specs.declared.Area.{Area}

-- leaf i adds its row to the sum of its label, which counts it; the state stays
pub record Gained (i : ℕ) (a a' : Area) : Type 0 where
  pub same : Same a a'
  pub state : state_of a' ≡ state_of a
  pub sums : a'.sums.now
      ≡ add_leaf a.sums.now a.shape.d (get_or a.labels.now i 0) (get_or a.leaves.weights.now i nan)
      (row_of a.leaves.coords.now a.shape.d i)
  pub counts : a'.counts.now ≡ count_one a.counts.now (get_or a.labels.now i 0)

pub record Accumulated (a a' : Area) : Type 0 where
  pub same : Same a a'
  pub state : state_of a' ≡ state_of a
  pub sums : a'.sums.now
      ≡ sums_up_to a.leaves.weights.now a.leaves.coords.now a.labels.now a.shape.k a.shape.d a.shape.m
  pub counts : a'.counts.now ≡ counts_up_to a.labels.now a.shape.k a.shape.m
