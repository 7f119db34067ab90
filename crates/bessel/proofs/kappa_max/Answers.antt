-- `bessel::kappa_max` meets its contract: a case of `kappa_max` for each answer, by its one test. Assumes nothing.
use borrow.Author.Tests.{le-leb, lt-leb}
use lib.Ieee.{of_bits, of_int}
use Rattle.bessel.proofs.kappa_max.Goals as goal

pub returns-then-dim-le3 : goal.returns-then-dim-le3
unfolding of_bits of_int
returns-then-dim-le3 c = rw (le-leb c.args.dim 3 c.if-dim-le3.true)

pub returns-else-dim-le3 : goal.returns-else-dim-le3
unfolding of_bits of_int
returns-else-dim-le3 c = rw (lt-leb c.args.dim 3 c.if-dim-le3.false)
