-- `bessel::Order::log_norm` meets its contract: the operations of `log_norm_at` on what the calls ensure; nu + 1 is d/2, and the constant
-- is the logarithm of TAU. Assumes nothing.
use mathlib.Core.Path.{sym, ap, ◌∙◌}
use lib.Ieee.{of_bits, of_int}
use Rattle.gamma.specs.Gamma.{ln_gamma_of}
use Rattle.gamma.proofs.Tau.{ln_tau}
use Rattle.gamma.proofs.Halves.{less_and_more}
use Rattle.bessel.specs.Normalizer.{log_vmf_norm_of}
use Rattle.bessel.proofs.Order.log_norm.Goals as goal

pub log_iv-requires : goal.log_iv-requires
unfolding of_bits of_int
log_iv-requires c =
    let o = c.args.self in
    o.starts.value ∙ ap ln_gamma_of (sym (less_and_more o.d o.starts.dimension.least o.starts.dimension.most))

pub returns : goal.returns
unfolding log_vmf_norm_of of_bits of_int
returns c = rw (← ln_tau, c.log_iv.ensures, c.ln.ensures)
