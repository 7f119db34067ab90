-- `logarithm::positive_ln` meets its contract: f is the fraction and e − 1074 the exponent of the split float, which one test raises. Assumes nothing.
use mathlib.Core.Path.{sym, ◌∙◌, subst}
use native.Mathlib.Omega.{arith}
use lib.Dec.{T, le→leb}
use lib.Ieee.{in_float, of_bits, of_int}
use Rattle.logarithm.proofs.Logarithm.{ln_above, ln_rest}
use Rattle.logarithm.proofs.positive_ln.Goals as goal

pub int_to_float-s : goal.int_to_float-s
unfolding in_float
int_to_float-s c =
    let s = c.split-s in
    le→leb s.result.e 9007199254740992 (omega (arith, s.ensures.high))

pub int_to_float-s-else-f : goal.int_to_float-s-else-f
unfolding in_float
int_to_float-s-else-f c =
    let s = c.split-s in
    le→leb s.result.e 9007199254740992 (omega (arith, s.ensures.high))

pub returns-then-f : goal.returns-then-f
unfolding of_bits of_int
returns-then-f c =
    let s = c.split-s in
    let f = c.compose-f in
    c.ln_at.ensures
    ∙ ln_above c.args.x (subst T (sym c.well_formed.0.1) tt) c.requires s.result.m s.result.e s.ensures f.result f.ensures c.if-f.true

pub returns-else-f : goal.returns-else-f
unfolding of_bits of_int
returns-else-f c =
    let s = c.split-s in
    let f = c.compose-f in
    c.ln_at-else-f.ensures
    ∙ ln_rest c.args.x (subst T (sym c.well_formed.0.1) tt) c.requires s.result.m s.result.e s.ensures f.result f.ensures c.if-f.false
