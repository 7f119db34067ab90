-- Document 01, 'Choosing the number of groups', and the mission's third demand: the automatic fit keeps exactly the
-- best number of groups. What a call promises of its own answer's numbers and of its arrays, over the lone fits of the
-- range. Definitions only.
use Rattle.std.specs.Prelude.{◌≡◌, List, false, not, ℕ, ◌+◌, ◌-◌, ◌*◌, ◌≤◌, T, length, Float, Result, Ok}
use Rattle.std.specs.Float.{inf}
use Rattle.std.specs.Float.Ieee.{lt}
use Rattle.rng.specs.SplitMix.{restart_seed_of}
use Rattle.counts.specs.Counts.{sum_over}
use Rattle.mixture_kappa.specs.declared.Settings.{Settings}
use Rattle.mixture_run.specs.Fits.{warm_of}
use Rattle.mixture_outputs.specs.Outputs.{Outputs, written, lengths_of}
use Rattle.auto_choice.specs.Choice.{highest, lowest, BestOf}
use Rattle.auto_tries.specs.Lone.{lone, score}
use Rattle.auto.specs.Refusals.{refusal_of}
use Rattle.auto.specs.Answers.{Numbers, numbers_of}
use Rattle.auto.specs.declared.Chosen.{Chosen}
use Rattle.auto.specs.declared.NotChosen.{NotChosen}

module _ (weights coords : List Float) (d : ℕ) (s : Settings) where
  -- the rounds begun by the warm start of restart t of the lone fit of k
  abbrev pub begun : (k t : ℕ) → ℕ
  begun k t = (warm_of weights coords (length weights) k d (restart_seed_of s.seed t)).begun

  -- k · leaves · rounds begun, over the four restarts
  abbrev pub products : ℕ → ℕ
  products k = sum_over (λ (t : ℕ). k * length weights * begun k t) 0 4

  -- over the range from lo to hi: an answer of these numbers, with these arrays found and left
  pub record Best (lo hi : ℕ) (n : Numbers) (o o' : Outputs) : Type 0 where
    -- kept, both directions
    pub kept_is_best : n.refusal ≡ 0 → BestOf (score weights coords d s) lo hi n.groups
    pub best_is_kept : (k : ℕ) → BestOf (score weights coords d s) lo hi k → (n.refusal ≡ 0) × (n.groups ≡ k)
    -- 7, both directions
    pub seven_is_none : n.refusal ≡ 7
        → (j : ℕ) → lo ≤ j → j ≤ hi → T (not (lt (score weights coords d s j) (inf false)))
    pub none_is_seven : ((j : ℕ) → lo ≤ j → j ≤ hi → T (not (lt (score weights coords d s j) (inf false))))
        → n.refusal ≡ 7
    -- the kept number's score, log-likelihood and arrays are those of its lone fit
    pub values : n.refusal ≡ 0 → let k = n.groups in
        (n.score ≡ score weights coords d s k) × (n.loglik ≡ (lone weights coords d s k).em.loglik)
        × (o' ≡ written (length weights) k d (lone weights coords d s k).em o)
    pub untouched : n.refusal ≡ 7 → o' ≡ o
    -- made and saved are the sums over the lone fits of the range
    pub made : n.counts.made ≡ sum_over (λ (j : ℕ). (lone weights coords d s j).counts.made) lo (hi + 1 - lo)
    pub saved : n.counts.saved ≡ sum_over (λ (j : ℕ). (lone weights coords d s j).counts.saved) lo (hi + 1 - lo)
    -- and together what the warm starts' rounds begun come to, within the limit
    pub work : n.counts.made + n.counts.saved ≡ sum_over products lo (hi + 1 - lo)
    pub limit : n.counts.made + n.counts.saved ≤ 200 * length weights * sum_over (λ (j : ℕ). j) lo (hi + 1 - lo)

-- ---- the third demand, of a call that 1 to 6 do not refuse: of the numbers that it gives, and the arrays after it
abbrev pub KeepsBest : (o : Outputs) (weights coords : List Float) (d : ℕ) (s : Settings) (kMin kMax work workU32 : ℕ)
    → Numbers → Outputs → Type 0
KeepsBest o weights coords d s kMin kMax work workU32 n o' =
    let hi = highest kMax (length weights) in
    refusal_of weights coords d hi s (lengths_of o work workU32) ≡ Ok tt
    → Best weights coords d s (lowest kMin hi) hi n o o'

-- of its answer, whatever was found where the numbers are put
abbrev pub AnswerKeepsBest : (o : Outputs) (weights coords : List Float) (d : ℕ) (s : Settings)
    (kMin kMax work workU32 : ℕ)
    → Result Chosen NotChosen → Outputs → Type 0
AnswerKeepsBest o weights coords d s kMin kMax work workU32 answer o' =
    (found : Numbers) → KeepsBest o weights coords d s kMin kMax work workU32 (numbers_of found answer) o'
