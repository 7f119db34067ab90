-- The grocer's question: which schedule does a shop get that is equally like two groups? That of the group with the
-- lower number. What a fit that is answered says of its labels. Definitions only.
use Rattle.std.specs.Prelude.{◌≡◌, ℕ, ◌+◌, ◌*◌, ◌<◌, get_or}
use Rattle.std.specs.Float.{nan}
use Rattle.pick.specs.First.{FirstOfGreatest}
use Rattle.mixture_outputs.specs.Outputs.{Outputs}

-- with refusal 0, for each leaf: no group's responsibility is above that of the label's group, and every lower group's
-- is below it, or NaN
abbrev pub LabelsFirst : (m refusal groups : ℕ) → Outputs → Type 0
LabelsFirst m refusal groups o =
    refusal ≡ 0 → (i : ℕ) → i < m
    → FirstOfGreatest (λ (g : ℕ). get_or o.responsibilities (i * groups + g) nan) groups (get_or o.labels i 0)
