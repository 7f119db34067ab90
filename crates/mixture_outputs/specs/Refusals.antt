-- Document 01, 'Refusals by call': what the mixture fits refuse. Definitions only.
use Rattle.std.specs.Prelude.{List, Bool, ◌&&◌, ℕ, ◌*◌, leb, length, Float, Result, ⊤}
use Rattle.limits.specs.Refusals.{need}
use Rattle.limits.specs.declared.Refusal.{Refusal}
use Rattle.limits.specs.declared.Refusal.TheVariants.{Sizes, Groups, Rounds, Arrays}
use Rattle.limits.specs.Limits.{sizes_ok, rounds_ok, work_ok, leaves_refusal}
use Rattle.mixture_kappa.specs.declared.Settings.{Settings}
use Rattle.mixture_outputs.specs.declared.Lengths.{Lengths}

-- 4 if an output or work array is too short: labels m, responsibilities m·k, weights k, directions k·d,
-- concentrations k, logw k
abbrev pub outputs_ok : (m k d : ℕ) → Lengths → Bool
outputs_ok m k d l =
    leb m l.labels && (leb (m * k) l.responsibilities && (leb k l.weights
    && (leb (k * d) l.directions && (leb k l.concentrations && leb k l.logw))))

abbrev pub arrays_ok : (m k d : ℕ) → Lengths → Bool
arrays_ok m k d l = outputs_ok m k d l && work_ok m k d l.work l.work_u32

-- the order of `spherical_kmeans`, without restarts. k is the number of groups, of the automatic fit k_hi;
-- whether it is admitted, which is number 2, each fit says for itself
unfoldable pub fit_refusal : (groups : Bool) (weights coords : List Float) (d k : ℕ) → Settings → Lengths
    → Result ⊤ Refusal
fit_refusal groups weights coords d k s l =
    need (sizes_ok (length weights) d (length coords)) Sizes
    (need groups Groups
    (need (rounds_ok s.rounds) Rounds
    (need (arrays_ok (length weights) k d l) Arrays (leaves_refusal weights coords))))
