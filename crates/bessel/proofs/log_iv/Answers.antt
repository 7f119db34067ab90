-- `bessel::log_iv` meets its contract: a case of `log_iv_of` for each answer, by its two tests. Assumes nothing.
use lib.Ieee.{of_bits, of_int}
use Rattle.bessel.specs.Normalizer.{log_iv_of}
use Rattle.bessel.proofs.log_iv.Goals.{else-nu-via-then-nu+else-kappa, else-nu-via-else-nu}
use Rattle.bessel.proofs.log_iv.Goals as goal

pub returns-then-kappa : goal.returns-then-kappa
unfolding log_iv_of of_bits of_int
returns-then-kappa c = rw (c.if-nu.true, c.if-kappa.true) c.log_iv_asymptotic.ensures

pub returns-else-nu : goal.returns-else-nu
unfolding log_iv_of of_bits of_int
returns-else-nu c =
    let series = c.log_iv_series.ensures in
    elim c.else-nu.branch [
      | else-nu-via-then-nu+else-kappa w ↦ rw (w.if-nu.true, w.if-kappa.false) series
      | else-nu-via-else-nu w ↦ rw w.if-nu.false series
    ]
