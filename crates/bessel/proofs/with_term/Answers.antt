-- `bessel::with_term` meets its contract: a case of `with_term` for each answer, by its one test and what the exponential ensures. Assumes nothing.
use lib.Ieee.{of_bits, of_int}
use Rattle.bessel.proofs.with_term.Goals as goal

pub returns-then-s-log_a : goal.returns-then-s-log_a
unfolding of_bits of_int
returns-then-s-log_a c = rw (c.if-s-log_a.true, c.exp.ensures)

pub returns-else-s-log_a : goal.returns-else-s-log_a
returns-else-s-log_a c = rw (c.if-s-log_a.false, c.exp-else-s-log_a.ensures)
