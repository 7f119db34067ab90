-- `bessel::log_iv_asymptotic` meets its contract: the operations of `asymptotic_at` on what the calls ensure. Assumes nothing.
use lib.Ieee.{of_bits, of_int}
use Rattle.bessel.specs.Normalizer.{asymptotic_of}
use Rattle.bessel.proofs.log_iv_asymptotic.Goals as goal

pub returns : goal.returns
unfolding asymptotic_of of_bits of_int
returns c =
    rw (
      c.ln-4.ensures,
      c.asymptotic_terms-terms.ensures,
      c.ln-3.ensures,
      c.ln-2.ensures,
      c.ln.ensures,
      c.root-w.ensures,
    )
