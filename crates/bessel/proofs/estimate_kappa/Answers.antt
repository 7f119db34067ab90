-- `bessel::estimate_kappa` meets its contract: its operations are those of `estimate_of` on what the calls ensure, and the rest is a law of that. Assumes nothing.
use native.Mathlib.Omega.{arith}
use lib.Dec.{le→leb}
use lib.Ieee.{in_float, of_bits, of_int}
use Rattle.bessel.specs.Concentration.{estimate_of}
use Rattle.bessel.proofs.Estimate.{estimated}
use Rattle.bessel.proofs.estimate_kappa.Goals as goal

pub int_to_float-d : goal.int_to_float-d
unfolding in_float
int_to_float-d c = le→leb c.args.dim 9007199254740992 (omega (arith, c.requires.most))

pub returns : goal.returns
unfolding estimate_of of_bits of_int
returns c =
    let a = c.args in
    estimated a.dim a.rbar c.clamp.result (rw (c.clamp.ensures, c.kappa_max.ensures, c.clamp-r.ensures))
