-- `kmeans_bounds::cosine` meets its contract, by what `clamp` ensures, once the literals are computed. Assumes nothing.
use lib.Ieee.{of_bits, of_int}
use Rattle.kmeans_bounds.proofs.cosine.Goals as goal

pub returns : goal.returns
unfolding of_bits of_int
returns c = c.clamp.ensures
