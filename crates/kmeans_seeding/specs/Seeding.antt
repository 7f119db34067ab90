-- Document 01, 'Spherical k-means': `spherical_pp`. Definitions only.
use Rattle.std.specs.Prelude.{List, [], ◌∷◌, ◌++◌, cond, ℕ, zero, suc, ◌-◌, Float}
use Rattle.std.specs.Float.{binary64}
use Rattle.std.specs.Float.Ieee.{sub, mul, lt}
use Rattle.float.specs.Arithmetic.{number, plus_zero, max_of}
use Rattle.rows.specs.Rows.{row_of}
use Rattle.vector.specs.Vectors.{dot_of, unit_vector}
use Rattle.pick.specs.Pick.{pick_of}
use Rattle.pick.specs.declared.Picked.{Picked}

-- the cosine distance of a leaf from a centre: max(1 − dot, 0)
abbrev pub cosine_distance : (x c : List Float) → Float
cosine_distance x c = max_of (sub binary64 (number 1) (dot_of x c)) plus_zero

-- of the leaves from a centre c
module _ (coords : List Float) (d : ℕ) (c : List Float) where
  -- of the first n
  unfoldable pub cosine_distances_up_to : (n : ℕ) → List Float
  cosine_distances_up_to zero = []
  cosine_distances_up_to (suc i) = cosine_distances_up_to i ++ (cosine_distance (row_of coords d i) c ∷ [])

  -- the distances of the leaves from i on, lowered where the centre is nearer
  unfoldable pub lowered : (i : ℕ) → List Float → List Float
  lowered i [] = []
  lowered i (x ∷ xs) = let v = cosine_distance (row_of coords d i) c in cond (lt v x) v x ∷ lowered (suc i) xs

-- weight times distance, leaf by leaf
unfoldable pub chances : (weights distances : List Float) → List Float
chances [] ds = []
chances (w ∷ ws) [] = []
chances (w ∷ ws) (x ∷ ds) = mul binary64 w x ∷ chances ws ds

-- the centres so far, the distance of each leaf from the nearest, and the generator
pub record Seeds : Type 0 where
  pub centers : List Float
  pub distances : List Float
  pub generator : ℕ

-- the leaf picked, as a unit vector
abbrev pub seed_row : List Float → ℕ → Picked → List Float
seed_row coords d p = unit_vector (row_of coords d p.index)

-- the first centre, by the weights
abbrev pub first_by : List Float → (m d : ℕ) → Picked → Seeds
first_by coords m d p =
    let row = seed_row coords d p in
    record { centers = row; distances = cosine_distances_up_to coords d row m; generator = p.generator }

-- a further one, by the weights times the distances
abbrev pub next_by : List Float → ℕ → Seeds → Picked → Seeds
next_by coords d s p =
    let row = seed_row coords d p in
    record {
      centers = s.centers ++ row;
      distances = lowered coords d row 0 s.distances;
      generator = p.generator;
    }

module _ (weights coords : List Float) (m d generator : ℕ) where
  -- after the first centre, n more
  unfoldable pub seeds_up_to : (n : ℕ) → Seeds
  seeds_up_to zero = first_by coords m d (pick_of weights generator)
  seeds_up_to (suc c) =
      let s = seeds_up_to c in
      next_by coords d s (pick_of (chances weights s.distances) s.generator)

-- k centres
abbrev pub seeds_of : (weights coords : List Float) (m k d generator : ℕ) → Seeds
seeds_of weights coords m k d generator = seeds_up_to weights coords m d generator (k - 1)
