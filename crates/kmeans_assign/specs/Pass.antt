-- Document 01, 'Spherical k-means': the bounds' shift and the assignment pass of a round of `spherical_lloyd`, with the
-- products that it makes and saves. Definitions only.
use Rattle.std.specs.Prelude.{List, Bool, true, false, not, ◌||◌, cond, ℕ, zero, suc, ◌+◌, ◌-◌, eqb, ltb, get_or, set}
use Rattle.std.specs.Prelude.{Float}
use Rattle.std.specs.Float.{nan, inf, binary64}
use Rattle.std.specs.Float.Ieee.{div, lt}
use Rattle.float.specs.Arithmetic.{plus_zero}
use Rattle.rows.specs.Rows.{row_of}
use Rattle.counts.specs.declared.Counts.{Counts}
use Rattle.counts.specs.Counts.{no_counts}
use Rattle.kmeans_bounds.specs.Shifts.{shifted_bounds, skips, slowest_of, other_than}
use Rattle.kmeans_nearest.specs.Nearest.{best_to}
use Rattle.kmeans_bounds.specs.declared.Bounds.{Bounds}
use Rattle.pick.specs.declared.Best.{Best}
use Rattle.kmeans_layout.specs.State.{State}

-- ---- a leaf's bounds and label in the state
abbrev pub bounds_at : State → ℕ → Bounds
bounds_at s i = record { scale = get_or s.scale i nan; low = get_or s.low i nan; high = get_or s.high i nan }

-- new bounds of leaf i; its scale stays
unfoldable pub put_bounds : ℕ → Bounds → State → State
put_bounds i b s =
    record {
      centers = s.centers;
      scale = s.scale;
      low = set s.low i b.low;
      high = set s.high i b.high;
      served = s.served;
      drift = s.drift;
      labels = s.labels;
    }

-- leaf i is served so well, by this centre
unfoldable pub put_label : ℕ → Float → ℕ → State → State
put_label i v c s =
    record {
      centers = s.centers;
      scale = s.scale;
      low = s.low;
      high = s.high;
      served = set s.served i v;
      drift = s.drift;
      labels = set s.labels i c;
    }

-- ---- a pass: the state after it, whether a label changed, and the products made and saved
pub record Pass : Type 0 where
  pub state : State
  pub changed : Bool
  pub counts : Counts

-- n products more made, or saved
abbrev pub more_made : ℕ → Counts → Counts
more_made n c = record { made = c.made + n; saved = c.saved }

abbrev pub more_saved : ℕ → Counts → Counts
more_saved n c = record { made = c.made; saved = c.saved + n }

-- ---- the shift: the bounds of the first n leaves, by how far the centres turned
module _ (k : ℕ) (t : Best) where
  abbrev pub shift_leaf : ℕ → State → State
  shift_leaf i s =
      let label = get_or s.labels i 0 in
      put_bounds i (shifted_bounds (ltb 1 k) (get_or s.drift label nan) (other_than t label) (bounds_at s i)) s

  unfoldable pub shift_up_to : State → ℕ → State
  shift_up_to s zero = s
  shift_up_to s (suc i) = shift_leaf i (shift_up_to s i)

-- after the first round
abbrev pub shifted_for : (m k it : ℕ) → State → State
shifted_for m k it s = cond (ltb 0 it) (shift_up_to k (slowest_of s.drift) s m) s

-- ---- the assignment pass

-- a leaf's bounds from its best and its second best dot; they stay where its scale is not above 0
abbrev pub bounds_by : ℕ → Best → Bounds → Bounds
bounds_by k b o =
    cond (lt plus_zero o.scale)
    (record {
      scale = o.scale;
      low = div binary64 b.value o.scale;
      high = cond (ltb 1 k) (div binary64 b.next o.scale) (inf true);
    })
    o

abbrev pub best_of : (coords : List Float) (k d : ℕ) → State → ℕ → Best
best_of coords k d s i = best_to (row_of coords d i) s.centers d (k - 1)

abbrev pub put_best : (k i : ℕ) → Best → State → State
put_best k i b s = put_bounds i (bounds_by k b (bounds_at s i)) (put_label i b.value b.index s)

module _ (coords : List Float) (k d it : ℕ) where
  -- leaf i in a pass of round `it`: skipped, or given its best centre
  abbrev pub pass_leaf : ℕ → Pass → Pass
  pass_leaf i p =
      let s = p.state in
      let best = best_of coords k d s i in
      cond (skips it (bounds_at s i))
      (record { state = s; changed = p.changed; counts = more_saved k p.counts })
      (record {
        state = put_best k i best s;
        changed = p.changed || not (eqb (get_or s.labels i 0) best.index);
        counts = more_made k p.counts;
      })

  unfoldable pub pass_up_to : State → ℕ → Pass
  pass_up_to s zero = record { state = s; changed = false; counts = no_counts }
  pass_up_to s (suc i) = pass_leaf i (pass_up_to s i)

-- the whole pass of round `it`, after the shift
abbrev pub pass_of : (coords : List Float) (m k d it : ℕ) → State → Pass
pass_of coords m k d it s = pass_up_to coords k d it (shifted_for m k it s) m
