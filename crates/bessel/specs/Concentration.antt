-- Document 01, 'Concentration and normalizer': the cap and the estimate of a concentration (Banerjee et al. 2005), in
-- vmf.rs's order of operations. Definitions, and the record of what `estimate_kappa` promises.
use Rattle.std.specs.Prelude.{◌≡◌, not, cond, ℕ, ◌≤◌, T, leb, Float}
use Rattle.std.specs.Float.{binary64}
use Rattle.std.specs.Float.Ieee.{sub, mul, div, le, is_nan}
use Rattle.float.specs.Arithmetic.{f64, number, clamp_of}

-- what the functions of a dimension ask
pub record Dimension (d : ℕ) : Type 0 where
  pub least : 1 ≤ d
  pub most : d ≤ 256

-- 1e-8 and 1e-9
abbrev pub kappa_min : Float
kappa_min = f64 0x3E45798EE2308C3A

abbrev pub short_of_one : Float
short_of_one = f64 0x3E112E0BE826D695

-- 1e4 for d ≤ 3, 1e6 above
abbrev pub kappa_max : ℕ → Float
kappa_max d = cond (leb d 3) (number 10000) (number 1000000)

-- r·(d − r·r) / (1 − r·r)
abbrev pub banerjee : ℕ → Float → Float
banerjee d r =
    div binary64
    (mul binary64 r (sub binary64 (number d) (mul binary64 r r)))
    (sub binary64 (number 1) (mul binary64 r r))

-- the resultant length is held to [1e-8, 1 − 1e-9], and the estimate to [1e-8, cap]
unfoldable pub estimate_of : ℕ → Float → Float
estimate_of d rbar =
    clamp_of (banerjee d (clamp_of rbar kappa_min (sub binary64 (number 1) short_of_one))) kappa_min (kappa_max d)

-- The definition; NaN exactly for NaN, otherwise within [1e-8, cap]; and the exact cases 0.5 at d = 4 and at d = 1.
pub record Estimated (d : ℕ) (rbar r : Float) : Type 0 where
  pub value : r ≡ estimate_of d rbar
  pub nan_for_nan : is_nan r ≡ is_nan rbar
  pub least : T (not (is_nan rbar)) → T (le kappa_min r)
  pub most : T (not (is_nan rbar)) → T (le r (kappa_max d))
  pub at_four : d ≡ 4 → rbar ≡ f64 0x3FE0000000000000 → r ≡ f64 0x4004000000000000
  pub at_one : d ≡ 1 → rbar ≡ f64 0x3FE0000000000000 → r ≡ f64 0x3FE0000000000000
