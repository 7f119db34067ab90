-- How long the arrays are in which a find is held. No definition of document 01 stands on this file.
use Rattle.std.specs.Prelude.{◌≡◌, List, ℕ, ◌+◌, ◌*◌, ◌≤◌, length, Float}

-- the rest changes places with that of an area, in which the warm start and the rounds have room
pub record SizedStore (m k d : ℕ) (directions rest : List Float) : Type 0 where
  pub directions_long : length directions ≡ k * d
  pub rounds_long : k + k + k + k + k + m * k ≤ length rest
  pub warm_long : m + m + m + m + k ≤ length rest
