-- Document 01, 'Mixture': the log normalizer of a group's concentration, and its ln weight with it. Definitions only.
use Rattle.std.specs.Prelude.{ℕ, Float}
use Rattle.std.specs.Float.{binary64}
use Rattle.std.specs.Float.Ieee.{add}
use Rattle.float.specs.Arithmetic.{f64, max_of}
use Rattle.logarithm.specs.Logarithm.{ln_of}
use Rattle.bessel.specs.Concentration.{kappa_min}
use Rattle.bessel.specs.Normalizer.{log_vmf_norm_of}

-- 1e-300, the floor of a weight under the logarithm
abbrev pub weight_floor : Float
weight_floor = f64 0x01A56E1FC2F8F359

abbrev pub log_norm_of : (d : ℕ) (kappa : Float) → Float
log_norm_of d kappa = log_vmf_norm_of d (max_of kappa kappa_min)

-- the log coefficient of a group: ln weight + log normalizer
abbrev pub log_coefficient : (d : ℕ) (weight kappa : Float) → Float
log_coefficient d weight kappa = add binary64 (ln_of (max_of weight weight_floor)) (log_norm_of d kappa)
