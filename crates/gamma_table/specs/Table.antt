-- Document 02, #105: 256 values for d = 1 to 256; each entry is `ln_gamma` of d/2 by document 01's arithmetic.
-- Definitions only.
use Rattle.std.specs.Prelude.{◌≡◌, List, ℕ, ◌-◌, ◌≤◌, Float, length, get_or}
use Rattle.std.specs.Float.{nan}
use Rattle.gamma.specs.Gamma.{ln_gamma_half}

pub record GammaTable (table : List Float) : Type 0 where
  pub values : length table ≡ 256
  pub entry : (d : ℕ) → 1 ≤ d → d ≤ 256 → get_or table (d - 1) nan ≡ ln_gamma_half d
