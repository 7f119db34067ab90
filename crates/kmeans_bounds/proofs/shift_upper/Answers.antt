-- `kmeans_bounds::shift_upper` meets its contract: past the test the answer is 1, once the literal is computed. Assumes nothing.
use lib.Ieee.{of_bits, of_int}
use Rattle.kmeans_bounds.specs.Shifts.{shift_upper}
use Rattle.kmeans_bounds.proofs.shift_upper.Goals as goal

pub returns-then-p-u : goal.returns-then-p-u
unfolding shift_upper of_bits of_int
returns-then-p-u c = rw (← c.cosine-u.ensures, ← c.cosine-p.ensures, c.if-p-u.true)
