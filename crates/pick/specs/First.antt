-- The grocer's question, which of two equals is taken: the first of the greatest of n numbers. Definitions only.
use Rattle.std.specs.Prelude.{not, ◌⊎◌, ℕ, ◌<◌, T, Float}
use Rattle.std.specs.Float.Ieee.{lt, is_nan}

-- no number is above the one at this place, and each before it is below it, or NaN; as f64 compare
pub record FirstOfGreatest (v : ℕ → Float) (n at : ℕ) : Type 0 where
  pub within : at < n
  pub none_above : (j : ℕ) → j < n → T (not (lt (v at) (v j)))
  pub before_below : (j : ℕ) → j < at → T (is_nan (v j)) ⊎ T (lt (v j) (v at))
