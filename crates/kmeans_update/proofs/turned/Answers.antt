-- `kmeans_update::turned` meets its contract, by what `dot` and `clamp` ensure. Assumes nothing.
use mathlib.Core.Path.{ap, ◌∙◌}
use lib.Ieee.{of_bits, of_int}
use Rattle.kmeans_bounds.specs.Shifts.{cosine}
use Rattle.kmeans_update.proofs.turned.Goals as goal

pub returns : goal.returns
unfolding of_bits of_int
returns c = c.clamp.ensures ∙ ap cosine c.dot.ensures
