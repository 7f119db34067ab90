-- Document 01, 'Mixture' and 'Spherical k-means': which of two runs is kept. Definitions only.
use Rattle.std.specs.Prelude.{cond, Float}
use Rattle.std.specs.Float.Ieee.{le}

-- what belongs to the held run, or to the run after it: that replaces the held one unless its value is ≤ the held
-- one's, so a NaN replaces and is replaced. The value is a run's log-likelihood, of k-means its cohesion.
abbrev pub kept_of : {A : Type 0} → Float → Float → A → A → A
kept_of heldValue run_value held run = cond (le run_value heldValue) held run
