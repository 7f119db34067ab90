-- What the functions of the start, of a round and of a whole run promise. No definition of document 01 stands
-- on this file.
use Rattle.std.specs.Prelude.{◌≡◌, List, cond, ℕ, ◌+◌, Float}
use Rattle.std.specs.declared.ops.ControlFlow.{ControlFlow}
use Rattle.std.specs.declared.ops.ControlFlow.TheVariants.{Continue, Break}
use Rattle.counts.specs.declared.Counts.{Counts}
use Rattle.counts.specs.Counts.{AtMost, of_round, of_runs}
use Rattle.rows.specs.Rows.{row_of}
use Rattle.rows.specs.Tabulate.{tabulate}
use Rattle.vector.specs.Vectors.{dot_of, norm_of}
use Rattle.kmeans_lloyd.specs.Results.{Result, result_of}
use Rattle.kmeans_layout.specs.State.{State}
use Rattle.kmeans_update.specs.Update.{update_of}
use Rattle.kmeans_assign.specs.Pass.{Pass, pass_of}
use Rattle.kmeans_lloyd.specs.Lloyd.{Run, ends_at, fresh_run, rounds_from}
use Rattle.kmeans_sums.specs.Sums.{sums_up_to}
use Rattle.kmeans_lloyd.specs.declared.RunEnd.{RunEnd}
use Rattle.kmeans_layout.specs.Areas.{state_of}
use Rattle.kmeans_layout.specs.declared.Area.{Area}

-- the dots with themselves, and the norms, of n leaves from leaf i on
abbrev pub own_dots : (coords : List Float) (d i n : ℕ) → List Float
own_dots coords d i n = tabulate (λ e. dot_of (row_of coords d (i + e)) (row_of coords d (i + e))) n

abbrev pub norms_from : (coords : List Float) (d i n : ℕ) → List Float
norms_from coords d i n = tabulate (λ e. norm_of (row_of coords d (i + e))) n

-- ---- the rounds

module _ (weights coords : List Float) (m k d it : ℕ) where
  -- a round by its pass p: the end, or the update
  pub record RoundBy (p : Pass) (s' : State) (r : ControlFlow Counts Counts) : Type 0 where
    pub answer : r ≡ cond (ends_at it p) (Break p.counts) (Continue p.counts)
    pub state : s' ≡ cond (ends_at it p) p.state (update_of weights coords m k d p.state).state
    pub small : AtMost of_round p.counts

  abbrev pub RoundDone : (s s' : State) → ControlFlow Counts Counts → Type 0
  RoundDone s s' r = RoundBy (pass_of coords m k d it s) s' r

-- the rounds of the definition from the state of an area
abbrev pub rounds_in : Area → (rounds : ℕ) → Run
rounds_in a rounds =
    rounds_from a.leaves.weights.now a.leaves.coords.now a.shape.m a.shape.k a.shape.d rounds 0 (fresh_run (state_of a))

-- the code's state and counts are those of a run of the definition so far
pub record RunSoFar (run : Run) (s : State) (c : Counts) : Type 0 where
  pub state : s ≡ run.state
  pub counts : c ≡ run.counts
  pub small : AtMost (of_runs 1) c

-- ---- the start
unfoldable pub put_scale : List Float → State → State
put_scale v s =
    record {
      centers = s.centers;
      scale = v;
      low = s.low;
      high = s.high;
      served = s.served;
      drift = s.drift;
      labels = s.labels;
    }

-- ---- a whole run

-- the run of the definition in an area
abbrev pub result_in : Area → (rounds generator : ℕ) → Result
result_in a rounds generator =
    result_of a.leaves.weights.now a.leaves.coords.now a.shape.m a.shape.k a.shape.d rounds generator

pub record RunDone (result : Result) (s : State) (r : RunEnd) : Type 0 where
  pub labels : s.labels ≡ result.labels
  pub centers : s.centers ≡ result.centers
  pub cohesion : r.cohesion ≡ result.cohesion
  pub counts : r.counts ≡ result.counts
  pub generator : r.generator ≡ result.generator
  pub small : AtMost (of_runs 1) r.counts

-- what a run leaves beside its result: the sums of the groups that the labels make
abbrev pub RunLeft : Area → Type 0
RunLeft a =
    a.sums.now ≡ sums_up_to a.leaves.weights.now a.leaves.coords.now a.labels.now a.shape.k a.shape.d a.shape.m
