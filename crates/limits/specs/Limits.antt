-- Document 01, 'Leaves, settings, fit' and 'Refusals by call': the limits that the entries share. Definitions only.
use Rattle.std.specs.Prelude.{◌≡◌, List, Bool, true, ◌&&◌, ℕ, ◌+◌, ◌*◌, eqb, leb, length, Float, Result, Ok, ⊤}
use Rattle.std.specs.List.{list_all}
use Rattle.std.specs.Float.Ieee.{neg, le}
use Rattle.float.specs.Arithmetic.{number, plus_zero}
use Rattle.limits.specs.Refusals.{need}
use Rattle.limits.specs.declared.Refusal.{Refusal}
use Rattle.limits.specs.declared.Refusal.TheVariants.{Weight, Coordinate}

-- from low to high, and so no NaN
abbrev pub within : (low high x : Float) → Bool
within low high x = le low x && le x high

-- from 0 to 2^40, and so finite; either zero is allowed
abbrev pub weight_ok : Float → Bool
weight_ok w = within plus_zero (number 1099511627776) w

-- within ±2, and so finite
abbrev pub coordinate_ok : Float → Bool
coordinate_ok x = within (neg (number 2)) (number 2) x

abbrev pub every : (Float → Bool) → List Float → Bool
every ok xs = list_all ok xs

-- the lent work arrays: 2·m·k + 4·k·d + 8·m + 16·k f64 and 2·m + 2·k u32
abbrev pub work_length : ℕ → ℕ → ℕ → ℕ
work_length m k d = 2 * (m * k) + 4 * (k * d) + 8 * m + 16 * k

abbrev pub work_u32_length : ℕ → ℕ → ℕ
work_u32_length m k = 2 * m + 2 * k

-- 4 if one of them is too short
abbrev pub work_ok : ℕ → ℕ → ℕ → ℕ → ℕ → Bool
work_ok m k d work workU32 = leb (work_length m k d) work && leb (work_u32_length m k) workU32

-- m is 1 to 4,096, d 1 to 256, k 1 to 64; rounds are 0 to 10,000, restarts 0 to 64
abbrev pub most_leaves : ℕ
most_leaves = 4096

abbrev pub most_coordinates : ℕ
most_coordinates = 256

abbrev pub most_groups : ℕ
most_groups = 64

abbrev pub most_rounds : ℕ
most_rounds = 10000

abbrev pub most_restarts : ℕ
most_restarts = 64

-- 1 if m or d is out of limits or the coordinates aren't m·d
abbrev pub sizes_ok : ℕ → ℕ → ℕ → Bool
sizes_ok m d coords = leb 1 m && (leb m most_leaves && (leb 1 d && (leb d most_coordinates && eqb coords (m * d))))

-- 2 if k is 0, above 64 or above m
abbrev pub groups_ok : ℕ → ℕ → Bool
groups_ok k m = leb 1 k && (leb k most_groups && leb k m)

-- 3 if rounds are above 10,000
abbrev pub rounds_ok : ℕ → Bool
rounds_ok rounds = leb rounds most_rounds

-- 5 for a bad weight, 6 for a bad coordinate
abbrev pub leaves_refusal : List Float → List Float → Result ⊤ Refusal
leaves_refusal weights coords =
    need (every weight_ok weights) Weight (need (every coordinate_ok coords) Coordinate (Ok tt))

-- leaves within the limits: what 1, 5 and 6 ask of them
pub record LeavesOk (weights coords : List Float) (d : ℕ) : Type 0 where
  pub sizes_ok_law : sizes_ok (length weights) d (length coords) ≡ true
  pub weights_ok : every weight_ok weights ≡ true
  pub coords_ok : every coordinate_ok coords ≡ true
