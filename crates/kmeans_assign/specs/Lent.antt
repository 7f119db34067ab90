-- What the struct of the parts that a pass is lent holds, and what of it stays. No definition of document 01 stands on
-- this file.
use Rattle.std.specs.Prelude.{◌≡◌}
use Rattle.kmeans_layout.specs.State.{State}
use Rattle.kmeans_assign.specs.Parts.{state_by}
use Rattle.kmeans_assign.specs.declared.layout.Assignment.{Assignment}

abbrev pub state_in : Assignment → State
state_in a = state_by a.centers.now a.scale.now a.low.now a.high.now a.served.now a.drift.now a.labels.now

-- the same sizes, coordinates and lent arrays, whatever these hold
pub record SameParts (a a' : Assignment) : Type 0 where
  pub shape : a'.shape ≡ a.shape
  pub coords : a'.coords ≡ a.coords
  pub centers : a'.centers.ghost_name ≡ a.centers.ghost_name
  pub scale : a'.scale.ghost_name ≡ a.scale.ghost_name
  pub low : a'.low.ghost_name ≡ a.low.ghost_name
  pub high : a'.high.ghost_name ≡ a.high.ghost_name
  pub served : a'.served.ghost_name ≡ a.served.ghost_name
  pub drift : a'.drift.ghost_name ≡ a.drift.ghost_name
  pub labels : a'.labels.ghost_name ≡ a.labels.ghost_name
