-- What the functions that read files and write text ask and promise one another. No definition of document 01 stands on
-- this file.
use Rattle.std.specs.Prelude.{◌≡◌, List, ◌++◌, ℕ, ◌+◌, ◌*◌, ◌≤◌, length, take, drop}
use Rattle.leaf_file.specs.declared.Text.{Text}

-- a file of n bytes holds m leaves of d coordinates, and there is room for them
pub record Sized (n weights coords m d : ℕ) : Type 0 where
  pub leaves : m ≤ weights
  pub numbers : m * d ≤ coords
  pub whole : n ≡ 8 + 8 * m + 8 * (m * d)

-- what a text holds, and what lies behind it
abbrev pub written : Text → List ℕ
written t = take t.at t.out.now

abbrev pub behind : Text → List ℕ
behind t = drop t.at t.out.now

-- these bytes were added to a text, in the same array; what lies behind them is as it was
pub record Grown (bytes : List ℕ) (t t' : Text) : Type 0 where
  pub same : t'.out.ghost_name ≡ t.out.ghost_name
  pub long : length t'.out.now ≡ length t.out.now
  pub ends : t'.at ≡ t.at + length bytes
  pub front : written t' ≡ written t ++ bytes
  pub rest : behind t' ≡ drop (length bytes) (behind t)
