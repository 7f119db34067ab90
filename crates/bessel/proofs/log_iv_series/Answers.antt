-- `bessel::log_iv_series` meets its contract: the operations of `series_at` on what the calls ensure. Assumes nothing.
use lib.Ieee.{of_bits, of_int}
use Rattle.bessel.specs.Normalizer.{series_of}
use Rattle.bessel.proofs.log_iv_series.Goals as goal

pub returns : goal.returns
unfolding series_of of_bits of_int
returns c =
    rw (← c.requires, c.ln.ensures, c.peak_sum-s.ensures, c.ln-half_ln.ensures)
