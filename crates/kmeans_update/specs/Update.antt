-- Document 01, 'Spherical k-means': the update of a round of `spherical_lloyd`: new centres, and reseeds of empty
-- groups. Definitions only.
use Rattle.std.specs.Prelude.{List, [], ◌∷◌, ◌++◌, Bool, false, ◌||◌, cond, ℕ, zero, suc, ◌+◌, ◌*◌, eqb, get_or, set}
use Rattle.std.specs.Prelude.{Float}
use Rattle.std.specs.Float.{inf}
use Rattle.rows.specs.Rows.{row_of, put_part}
use Rattle.vector.specs.Vectors.{dot_of, unit_vector}
use Rattle.pick.specs.Places.{argmin_of}
use Rattle.kmeans_bounds.specs.Shifts.{cosine}
use Rattle.kmeans_layout.specs.State.{State}
use Rattle.kmeans_sums.specs.Sums.{sums_up_to, counts_up_to, center_by}

-- how well the leaves are served
unfoldable pub put_served : List Float → State → State
put_served v s =
    record {
      centers = s.centers;
      scale = s.scale;
      low = s.low;
      high = s.high;
      served = v;
      drift = s.drift;
      labels = s.labels;
    }

-- Centre c becomes this row of d; its drift is the dot of the old row and the new, held to [−1, 1]. The Rust takes the
-- drifts once all centres have moved, against a copy of the old ones: that is the same, since no move before this one
-- touches row c, and no later one of the update.
unfoldable pub move_center : (d c : ℕ) → List Float → State → State
move_center d c row s =
    record {
      centers = put_part s.centers (c * d) d row;
      scale = s.scale;
      low = s.low;
      high = s.high;
      served = s.served;
      drift = set s.drift c (cosine (dot_of (row_of s.centers d c) row));
      labels = s.labels;
    }

-- whether one of the first n groups is empty
unfoldable pub empty_up_to : List ℕ → (n : ℕ) → Bool
empty_up_to counts zero = false
empty_up_to counts (suc c) = empty_up_to counts c || eqb (get_or counts c 0) 0

-- whether a leaf is among those picked
unfoldable pub among : ℕ → List ℕ → Bool
among i [] = false
among i (p ∷ ps) = eqb i p || among i ps

-- an update: the state, the leaves that reseeds have picked in it, and how many picked one anew
pub record Update : Type 0 where
  pub state : State
  pub picked : List ℕ
  pub doubled : ℕ

-- before its first group
abbrev pub fresh_update : State → Update
fresh_update s = record { state = s; picked = []; doubled = 0 }

-- how well a leaf is served once a reseed has picked it: best of all, so that no other reseed picks it
abbrev pub best_served : Float
best_served = inf false

-- a group that is not empty gets the centre of its sum
module _ (d : ℕ) (sums : List Float) (c : ℕ) where
  abbrev pub recentered : State → State
  recentered s = move_center d c (center_by (row_of sums d c) (row_of s.centers d c)) s

  abbrev pub recenter : Update → Update
  recenter u = record { state = recentered u.state; picked = u.picked; doubled = u.doubled }

module _ (coords : List Float) (d : ℕ) where
  -- how well the first n leaves are served by the centres of their labels
  unfoldable pub served_up_to : State → (n : ℕ) → List Float
  served_up_to s zero = []
  served_up_to s (suc i) =
      served_up_to s i ++ (dot_of (row_of coords d i) (row_of s.centers d (get_or s.labels i 0)) ∷ [])

  -- an empty group is reseeded from the worst-served leaf
  abbrev pub reseeded : (c worst : ℕ) → State → State
  reseeded c worst s =
      move_center d c (unit_vector (row_of coords d worst)) (put_served (set s.served worst best_served) s)

  abbrev pub reseed_from : (c worst : ℕ) → Update → Update
  reseed_from c worst u =
      record {
        state = reseeded c worst u.state;
        picked = worst ∷ u.picked;
        doubled = u.doubled + cond (among worst u.picked) 1 0;
      }

  module _ (sums : List Float) (counts : List ℕ) where
    abbrev pub update_group : (c : ℕ) → Update → Update
    update_group c u =
        cond (eqb (get_or counts c 0) 0) (reseed_from c (argmin_of u.state.served) u) (recenter d sums c u)

    -- the first n groups
    unfoldable pub update_up_to : State → (n : ℕ) → Update
    update_up_to s zero = fresh_update s
    update_up_to s (suc c) = update_group c (update_up_to s c)

-- served refreshed where a group is empty
abbrev pub refreshed : List Float → (m k d : ℕ) → List ℕ → State → State
refreshed coords m k d counts s = cond (empty_up_to counts k) (put_served (served_up_to coords d s m) s) s

module _ (weights coords : List Float) (m k d : ℕ) (s : State) where
  -- sums and counts, served refreshed where a group is empty, and new centres of the first n groups
  abbrev pub update_to : (n : ℕ) → Update
  update_to n =
      let counts = counts_up_to s.labels k m in
      let sums = sums_up_to weights coords s.labels k d m in
      update_up_to coords d sums counts (refreshed coords m k d counts s) n

  -- of all k
  abbrev pub update_of : Update
  update_of = update_to k
