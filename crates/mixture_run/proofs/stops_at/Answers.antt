-- `mixture_run::stops_at` meets its contract: the operations of `stops_at` on what the calls ensure. Assumes nothing.
use lib.Ieee.{of_bits, of_int}
use Rattle.mixture_run.proofs.stops_at.Goals as goal

pub returns : goal.returns
unfolding of_bits of_int
returns c = rw (c.max.ensures, c.abs-2.ensures, c.abs.ensures)
