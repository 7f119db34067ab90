-- What the seeding asks of the parts that it is lent, and what its functions promise of them. No definition of document
-- 01 stands on this file.
use Rattle.std.specs.Prelude.{◌≡◌, List, [], ◌∷◌, cond, ℕ, suc, ◌+◌, ◌*◌, length, get_or, set, Float}
use Rattle.std.specs.Float.{nan}
use Rattle.std.specs.Float.Ieee.{lt}
use Rattle.rows.specs.Rows.{put_part, row_of}
use Rattle.rows.specs.Tabulate.{tabulate}
use Rattle.limits.specs.declared.Shape.{Shape}
use Rattle.pick.specs.Pick.{pick_of}
use Rattle.pick.specs.declared.Picked.{Picked}
use Rattle.kmeans_seeding.specs.Seeding.{cosine_distance, lowered, chances, seed_row, Seeds}

-- the cosine distances of n leaves from a centre, from leaf i on
abbrev pub cosine_distances : List Float → ℕ → List Float → (i n : ℕ) → List Float
cosine_distances coords d c i n = tabulate (λ e. cosine_distance (row_of coords d (i + e)) c) n

-- the element at a place lowered where v is below it, and as many from it on as there are new ones
unfoldable pub lower_at : List Float → ℕ → Float → List Float
lower_at w at v = let held = get_or w at nan in set w at (cond (lt v held) v held)

abbrev pub lower_from : List Float → ℕ → List Float → List Float
lower_from w at [] = w
lower_from w at (v ∷ vs) = lower_from (lower_at w at v) (suc at) vs

-- how long the lent parts are: a row for each centre, a distance and a chance for each leaf
pub record Lent (shape : Shape) (centers distances chances : List Float) : Type 0 where
  pub centers_long : length centers ≡ shape.k * shape.d
  pub distances_long : length distances ≡ shape.m
  pub chances_long : length chances ≡ shape.m

-- ---- one centre more: what the lent parts hold, with the generator; the leaf picked; the parts after it
abbrev pub held_by : (centers distances : List Float) (generator : ℕ) → Seeds
held_by centers distances generator = record { centers = centers; distances = distances; generator = generator }

abbrev pub next_pick : List Float → Seeds → Picked
next_pick weights s = pick_of (chances weights s.distances) s.generator

pub record SeededNext (weights coords : List Float) (d c : ℕ) (s s' : Seeds) : Type 0 where
  pub centers : s'.centers ≡ put_part s.centers (c * d) d (seed_row coords d (next_pick weights s))
  pub distances : s'.distances ≡ lowered coords d (seed_row coords d (next_pick weights s)) 0 s.distances
  pub generator_is : s'.generator ≡ (next_pick weights s).generator
