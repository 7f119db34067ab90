-- The parts that a pass is lent: how long they are, and the state that they hold. No definition of document 01 stands
-- on this file.
use Rattle.std.specs.Prelude.{◌≡◌, List, ℕ, ◌*◌, length, Float}
use Rattle.limits.specs.declared.Shape.{Shape}
use Rattle.kmeans_layout.specs.State.{State}

pub record Sized (shape : Shape) (coords centers scale low high served drift : List Float) (labels : List ℕ)
    : Type 0 where
  pub coords_long : length coords ≡ shape.m * shape.d
  pub centers_long : length centers ≡ shape.k * shape.d
  pub scale_long : length scale ≡ shape.m
  pub low_long : length low ≡ shape.m
  pub high_long : length high ≡ shape.m
  pub served_long : length served ≡ shape.m
  pub drift_long : length drift ≡ shape.k
  pub labels_long : length labels ≡ shape.m

abbrev pub state_by : (centers scale low high served drift : List Float) → List ℕ → State
state_by centers scale low high served drift labels =
    record {
      centers = centers;
      scale = scale;
      low = low;
      high = high;
      served = served;
      drift = drift;
      labels = labels;
    }
