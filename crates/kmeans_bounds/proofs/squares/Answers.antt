-- `kmeans_bounds::squares` meets its contract, by what `max` ensures, once the literals are computed. Assumes nothing.
use lib.Ieee.{of_bits, of_int}
use Rattle.kmeans_bounds.proofs.squares.Goals as goal

pub returns : goal.returns
unfolding of_bits of_int
returns c = c.max.ensures
