-- Document 01, 'Refusals by call': `spherical_kmeans`. Definitions only.
use Rattle.std.specs.Prelude.{List, Bool, ◌&&◌, ℕ, ◌*◌, leb, length, Float, Result, ⊤}
use Rattle.limits.specs.Limits.{leaves_refusal, work_ok, sizes_ok, groups_ok, rounds_ok, most_restarts}
use Rattle.limits.specs.Refusals.{need}
use Rattle.limits.specs.declared.Refusal.{Refusal}
use Rattle.limits.specs.declared.Refusal.TheVariants.{Sizes, Groups, Rounds, Arrays}

-- 3 if restarts are above 64
abbrev pub restarts_ok : ℕ → Bool
restarts_ok restarts = leb restarts most_restarts

-- 4 if an output or work array is too short: labels m, directions k·d
abbrev pub arrays_ok : (m k d labels directions work workU32 : ℕ) → Bool
arrays_ok m k d labels directions work workU32 =
    leb m labels && (leb (k * d) directions && work_ok m k d work workU32)

-- the first refusal that holds, in this order, if any; of the arrays only the lengths count, but of weights and
-- coordinates the values
unfoldable pub refusal_of : (weights coords : List Float) (d k rounds restarts labels directions work workU32 : ℕ)
    → Result ⊤ Refusal
refusal_of weights coords d k rounds restarts labels directions work workU32 =
    need (sizes_ok (length weights) d (length coords)) Sizes
    (need (groups_ok k (length weights)) Groups
    (need (rounds_ok rounds && restarts_ok restarts) Rounds
    (need (arrays_ok (length weights) k d labels directions work workU32) Arrays (leaves_refusal weights coords))))
