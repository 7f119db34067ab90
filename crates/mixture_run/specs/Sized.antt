-- How long the parts of a mixture run's area are, and what of its rest a run's find is. No definition of document 01
-- stands on this file.
use Rattle.std.specs.Prelude.{◌≡◌, List, ℕ, ◌+◌, ◌*◌, ◌≤◌, length, take, drop, Float}

-- the rest has room for the warm start's numbers and for those of the rounds
pub record SizedArea (m k d : ℕ) (centers sums rest : List Float) (labels counts : List ℕ) : Type 0 where
  pub centers_long : length centers ≡ k * d
  pub sums_long : length sums ≡ k * d
  pub rounds_long : k + k + k + k + k + m * k ≤ length rest
  pub warm_long : m + m + m + m + k ≤ length rest
  pub labels_long : length labels ≡ m
  pub counts_long : length counts ≡ k

pub record Sized (m k d : ℕ)
    (directions sums weights kappas log_coefficients totals norms responsibilities : List Float) : Type 0 where
  pub directions_long : length directions ≡ k * d
  pub sums_long : length sums ≡ k * d
  pub weights_long : length weights ≡ k
  pub kappas_long : length kappas ≡ k
  pub log_coefficients_long : length log_coefficients ≡ k
  pub totals_long : length totals ≡ k
  pub norms_long : length norms ≡ k
  pub responsibilities_long : length responsibilities ≡ m * k

-- of what a run found
pub record SizedFound (m k d : ℕ) (responsibilities weights directions concentrations : List Float) : Type 0 where
  pub responsibilities_long : length responsibilities ≡ m * k
  pub weights_long : length weights ≡ k
  pub directions_long : length directions ≡ k * d
  pub concentrations_long : length concentrations ≡ k

-- of the f64 array, beside the length of the warm start's area
abbrev pub total : (m k d : ℕ) → ℕ
total m k d = k * d + k * d + k + k + k + k + k + m * k

-- ---- in the rest: weights, concentrations, then log coefficients, whole weights and lengths of resultants, which are
-- no find, and the responsibilities
abbrev pub weights_in : (k : ℕ) → List Float → List Float
weights_in k rest = take k rest

abbrev pub kappas_in : (k : ℕ) → List Float → List Float
kappas_in k rest = take k (drop k rest)

abbrev pub responsibilities_in : (m k : ℕ) → List Float → List Float
responsibilities_in m k rest = take (m * k) (drop (3 * k) (drop k (drop k rest)))
