-- What a work area holds. No definition of document 01 stands on this file.
use Rattle.std.specs.Prelude.{◌≡◌}
use Rattle.kmeans_layout.specs.State.{State}
use Rattle.kmeans_layout.specs.declared.Area.{Area}

-- the state; the sums and the counts stand beside it
abbrev pub state_of : Area → State
state_of a =
    record {
      centers = a.centers.now;
      scale = a.scale.now;
      low = a.low.now;
      high = a.high.now;
      served = a.served.now;
      drift = a.drift.now;
      labels = a.labels.now;
    }

-- nothing of a run changes its sizes and leaves
abbrev pub Same : (a a' : Area) → Type 0
Same a a' = (a'.shape ≡ a.shape) × (a'.leaves ≡ a.leaves)

-- all but the sums is as it was
abbrev pub BesideSums : (a a' : Area) → Type 0
BesideSums a a' = Same a a' × (state_of a' ≡ state_of a) × (a'.counts.now ≡ a.counts.now)
