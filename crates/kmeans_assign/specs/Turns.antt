-- What a leaf's turn in a pass does and how it is counted, as the functions of the pass promise it. No definition of
-- document 01 stands on this file.
use Rattle.std.specs.Prelude.{◌≡◌, List, Bool, true, not, ◌||◌, cond, Option, None, Some, ℕ, get_or, Float, eqb, ltb}
use Rattle.std.specs.Float.{nan}
use Rattle.std.specs.Float.Ieee.{lt}
use Rattle.float.specs.Arithmetic.{plus_zero}
use Rattle.kmeans_bounds.specs.declared.Bounds.{Bounds}
use Rattle.kmeans_bounds.specs.declared.Turned.{Turned}
use Rattle.pick.specs.declared.Best.{Best}
use Rattle.kmeans_bounds.specs.Shifts.{skips, slowest_of, other_than}
use Rattle.kmeans_bounds.specs.Products.{NeverSkipped}
use Rattle.kmeans_layout.specs.State.{State}
use Rattle.counts.specs.Counts.{AtMost, of_round}
use Rattle.kmeans_assign.specs.Pass.{Pass, bounds_at, best_of, put_best, more_made, more_saved, shift_leaf, shift_up_to}
use Rattle.kmeans_assign.specs.declared.Passed.{Passed}

-- how far leaf i's centre turned, and the others at most, by the two smallest drifts
abbrev pub turns_of : (k : ℕ) → Best → ℕ → State → Turned
turns_of k t i s =
    let label = get_or s.labels i 0 in
    record { own = get_or s.drift label nan; other = cond (ltb 1 k) (Some (other_than t label)) None }

-- a leaf that no pass skips once its bounds are shifted, and whose new bounds come from its dots alone
pub record Spent (t : Turned) (b : Bounds) : Type 0 where
  pub scaled : lt plus_zero b.scale ≡ true
  pub stays : NeverSkipped t b

-- leaf i given its best centre, whether that is another one than before
pub record LeafPlaced (coords : List Float) (k d i : ℕ) (s s' : State) (changed : Bool) : Type 0 where
  pub change : changed ≡ not (eqb (get_or s.labels i 0) (best_of coords k d s i).index)
  pub state : s' ≡ put_best k i (best_of coords k d s i) s

-- leaf i in a pass of round `it`: skipped (none), or given its best centre (whether that is another one than before)
pub record LeafPassed (coords : List Float) (k d it i : ℕ) (s s' : State) (turn : Option Bool) : Type 0 where
  pub answer : turn
      ≡ cond (skips it (bounds_at s i)) None (Some (not (eqb (get_or s.labels i 0) (best_of coords k d s i).index)))
  pub state : s' ≡ cond (skips it (bounds_at s i)) s (put_best k i (best_of coords k d s i) s)

-- a turn counted: what a skipped leaf saves, or what one that got its best centre made
abbrev pub tallied : Passed → Option Bool → ℕ → Passed
tallied p None k = record { changed = p.changed; counts = more_saved k p.counts }
tallied p (Some changed) k = record { changed = p.changed || changed; counts = more_made k p.counts }

-- the pass of the definition that a state and an answer make
abbrev pub passed : State → Passed → Pass
passed s p = record { state = s; changed = p.changed; counts = p.counts }

-- the pass of the definition is the state and the answer after it, and its counts are small
pub record PassDone (p : Pass) (s : State) (answer : Passed) : Type 0 where
  pub answer_is : passed s answer ≡ p
  pub small : AtMost of_round answer.counts

-- the two smallest drifts, by which a round shifts the bounds; none in the first, before which no centre turned
abbrev pub drifts_of : ℕ → List Float → Option Best
drifts_of it drift = cond (ltb 0 it) (Some (slowest_of drift)) None

-- leaf i, and the first n leaves, shifted by the drifts; where there are none, the state as it is
abbrev pub shift_one : ℕ → Option Best → ℕ → State → State
shift_one k None i s = s
shift_one k (Some t) i s = shift_leaf k t i s

abbrev pub shift_by : ℕ → Option Best → State → ℕ → State
shift_by k None s n = s
shift_by k (Some t) s n = shift_up_to k t s n
