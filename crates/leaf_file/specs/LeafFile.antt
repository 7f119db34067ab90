-- Document 01, 'Leaf file and listing program' and 'Refusals by call': the leaves that a file holds, what is refused,
-- and the fit of a file. Definitions only. The leaves and their fit do not depend on the format that held them.
use Rattle.std.specs.Prelude.{List, ◌&&◌, ℕ, zero, suc, ◌+◌, ◌*◌, leb, eqb, length, get_or, replicate, Float}
use Rattle.std.specs.Prelude.{Result, Ok, Err, ⊤}
use Rattle.std.specs.Float.{binary64}
use Rattle.std.specs.Float.Ieee.{of_bits}
use Rattle.float.specs.Arithmetic.{plus_zero}
use Rattle.limits.specs.Limits.{work_length, work_u32_length}
use Rattle.limits.specs.Refusals.{need}
use Rattle.limits.specs.declared.Refusal.{Refusal}
use Rattle.limits.specs.declared.Refusal.TheVariants.{FileLength, FileSizes}
use Rattle.rows.specs.Tabulate.{tabulate}
use Rattle.mixture_kappa.specs.declared.Settings.{Settings}
use Rattle.mixture_kappa.specs.declared.Kappa.TheVariants.{Free}
use Rattle.mixture_outputs.specs.Outputs.{Outputs, arrays}
use Rattle.auto.specs.Outcome.{Outcome, outcome}
use Rattle.auto.specs.Best.{AnswerKeepsBest}
use Rattle.auto.specs.declared.Chosen.{Chosen}
use Rattle.auto.specs.declared.NotChosen.{NotChosen}
use Rattle.auto.specs.declared.NotChosen.TheVariants.{Refused}
use Rattle.leaf_file.specs.declared.Header.{Header}

-- ---- what a file means

-- leaves of d coordinates, row by row
pub record Leaves : Type 0 where
  pub d : ℕ
  pub weights : List Float
  pub coords : List Float

-- the whole number of the n bytes from `at` on, little-endian
unfoldable pub whole_at : List ℕ → ℕ → ℕ → ℕ
whole_at bytes at zero = 0
whole_at bytes at (suc n) = get_or bytes at 0 + 256 * whole_at bytes (at + 1) n

abbrev pub u32_at : List ℕ → ℕ → ℕ
u32_at bytes at = whole_at bytes at 4

-- every bit pattern of a NaN is a NaN
abbrev pub f64_at : List ℕ → ℕ → Float
f64_at bytes at = of_bits binary64 (whole_at bytes at 8)

-- n f64 from `at` on
abbrev pub f64s_at : List ℕ → ℕ → ℕ → List Float
f64s_at bytes at n = tabulate (λ (i : ℕ). f64_at bytes (at + 8 * i)) n

-- sizes first: m and d; then m weights and m rows of d coordinates
abbrev pub leaves_of : List ℕ → ℕ → ℕ → Leaves
leaves_of bytes m d = record { d = d; weights = f64s_at bytes 8 m; coords = f64s_at bytes (8 + 8 * m) (m * d) }

abbrev pub leaves_in : List ℕ → Leaves
leaves_in bytes = leaves_of bytes (u32_at bytes 0) (u32_at bytes 4)

-- 8 below eight bytes; 9 if its m is above 64 or its d above 16; 8 if the length is wrong
abbrev pub refusal_by : ℕ → ℕ → ℕ → Result ⊤ Refusal
refusal_by n m d =
    need (leb m 64 && leb d 16) FileSizes (need (eqb n (8 + 8 * m + 8 * (m * d))) FileLength (Ok tt))

unfoldable pub file_refusal : List ℕ → Result ⊤ Refusal
file_refusal bytes =
    need (leb 8 (length bytes)) FileLength (refusal_by (length bytes) (u32_at bytes 0) (u32_at bytes 4))

-- the sizes that a file says, unless it is refused
abbrev pub header_by : Result ⊤ Refusal → List ℕ → Result Header Refusal
header_by (Ok x) bytes = Ok (record { m = u32_at bytes 0; d = u32_at bytes 4 })
header_by (Err e) bytes = Err e

abbrev pub header_of : List ℕ → Result Header Refusal
header_of bytes = header_by (file_refusal bytes) bytes

-- ---- the fit of a file's leaves: k 1 to 4, 100 rounds, seed 7, Free

abbrev pub settings : Settings
settings = record { rounds = 100; seed = 7; kappa = Free }

-- beside the labels, arrays as long as 64 leaves of 16 coordinates in 4 groups make them; the work arrays likewise
abbrev pub room : List ℕ → Outputs
room labels =
    arrays labels (replicate (64 * 4) plus_zero) (replicate 4 plus_zero) (replicate (4 * 16) plus_zero)
    (replicate 4 plus_zero) (replicate 4 plus_zero)

abbrev pub work_room : ℕ
work_room = work_length 64 4 16

abbrev pub work_u32_room : ℕ
work_u32_room = work_u32_length 64 4

unfoldable pub leaves_fit : Leaves → List ℕ → Outcome
leaves_fit l labels = outcome (room labels) l.weights l.coords l.d settings 1 4 work_room work_u32_room

-- the mission's third demand of such a fit
abbrev pub LeavesKeepBest : Leaves → List ℕ → Result Chosen NotChosen → Type 0
LeavesKeepBest l labels answer =
    AnswerKeepsBest (room labels) l.weights l.coords l.d settings 1 4 work_room work_u32_room answer
    (leaves_fit l labels).outputs

-- what a call answers, and the labels after it; the labels as found where the file is refused
pub record FileFit : Type 0 where
  pub answer : Result Chosen NotChosen
  pub labels : List ℕ

abbrev pub file_fit_by : Result ⊤ Refusal → Leaves → List ℕ → FileFit
file_fit_by (Ok x) l labels =
    record { answer = (leaves_fit l labels).answer; labels = (leaves_fit l labels).outputs.labels }
file_fit_by (Err e) l labels = record { answer = Err (Refused e); labels = labels }

abbrev pub file_fit : List ℕ → List ℕ → FileFit
file_fit bytes labels = file_fit_by (file_refusal bytes) (leaves_in bytes) labels
