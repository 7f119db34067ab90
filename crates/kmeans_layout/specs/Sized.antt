-- How long the parts of a run's work area are, and what holds of its labels. No definition of document 01 stands on
-- this file.
use Rattle.std.specs.Prelude.{◌≡◌, List, ℕ, ◌+◌, ◌*◌, ◌<◌, length, get_or, Float}

-- m leaves of d coordinates
pub record Fit (m d : ℕ) (weights coords : List Float) : Type 0 where
  pub weights_long : length weights ≡ m
  pub coords_long : length coords ≡ m * d

-- with k groups
pub record Sized (m k d : ℕ) (centers sums scale low high served drift : List Float) (labels counts : List ℕ)
    : Type 0 where
  pub centers_long : length centers ≡ k * d
  pub sums_long : length sums ≡ k * d
  pub scale_long : length scale ≡ m
  pub low_long : length low ≡ m
  pub high_long : length high ≡ m
  pub served_long : length served ≡ m
  pub drift_long : length drift ≡ k
  pub labels_long : length labels ≡ m
  pub counts_long : length counts ≡ k

-- each label is below k
abbrev pub Labelled : (m k : ℕ) → List ℕ → Type 0
Labelled m k labels = (i : ℕ) → i < m → get_or labels i 0 < k

-- the lengths of all parts together, of the f64 array and of the u32 array
abbrev pub total : (m k d : ℕ) → ℕ
total m k d = k * d + k * d + m + m + m + m + k

abbrev pub work_u32_total : (m k : ℕ) → ℕ
work_u32_total m k = m + k

-- half of document 01's work arrays: m·k + 2·k·d + 4·m + 8·k f64, and m + k u32
abbrev pub half : (m k d : ℕ) → ℕ
half m k d = m * k + k * d + k * d + 4 * m + 8 * k
