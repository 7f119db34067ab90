-- What an order holds of the number that the series starts from: it is ln_gamma of d/2, d a dimension. Definitions
-- only.
use Rattle.std.specs.Prelude.{◌≡◌, ℕ, Float}
use Rattle.gamma.specs.Gamma.{ln_gamma_half}
use Rattle.bessel.specs.Concentration.{Dimension}

pub record StartOf (d : ℕ) (start : Float) : Type 0 where
  pub dimension : Dimension d
  pub value : start ≡ ln_gamma_half d
