-- `mixture_run::expectation::norm_for` meets its contract: two f64 with one bit pattern are equal. Assumes nothing.
use mathlib.Core.Path.{◌≡◌, ap, sym, subst, ◌∙◌}
use lib.Dec.{T}
use lib.Ieee.{Float, binary64, fits, to_bits, of_bits}
use lib.Ieee.Bits.{of_bits-to_bits}
use Rattle.mixture_kappa.specs.Groups.{log_norm_of}
use Rattle.mixture_run.proofs.expectation.norm_for.Goals as goal

equal : (x y : Float) → T (fits binary64 x) → T (fits binary64 y) → to_bits binary64 x ≡ to_bits binary64 y → x ≡ y
equal x y f g e = sym (of_bits-to_bits binary64 x f) ∙ ap (of_bits binary64) e ∙ of_bits-to_bits binary64 y g

pub returns-then-bits_of : goal.returns-then-bits_of
returns-then-bits_of c =
    let a = c.args in
    let one = sym c.bits_of-2.ensures ∙ sym c.if-bits_of.true ∙ c.bits_of.ensures in
    let last_Fits = subst T (sym c.well_formed.1.0.1) tt in
    let kappa-fits = subst T (sym c.well_formed.0.1) tt in
    c.requires ∙ ap (log_norm_of a.order.d) (equal a.last a.kappa last_Fits kappa-fits one)
