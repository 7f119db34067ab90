-- `kmeans_bounds::shift_lower` meets its contract: past the test the answer is -1, once the literal is computed. Assumes nothing.
use lib.Ieee.{of_bits, of_int}
use Rattle.kmeans_bounds.specs.Shifts.{shift_lower}
use Rattle.kmeans_bounds.proofs.shift_lower.Goals as goal

pub returns-then-l-p : goal.returns-then-l-p
unfolding shift_lower of_bits of_int
returns-then-l-p c = rw (← c.cosine-l.ensures, ← c.cosine-p.ensures, c.if-l-p.true)
