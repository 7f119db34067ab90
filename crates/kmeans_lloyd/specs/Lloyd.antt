-- Document 01, 'Spherical k-means': `spherical_lloyd`, round by round, with its counts, what it doubled and the
-- rounds begun. Definitions only.
use Rattle.std.specs.Prelude.{List, Bool, true, false, not, ◌&&◌, cond, ℕ, zero, suc, ◌+◌, ltb, replicate, Float}
use Rattle.std.specs.Float.{inf}
use Rattle.counts.specs.declared.Counts.{Counts}
use Rattle.counts.specs.Counts.{no_counts, plus_of}
use Rattle.float.specs.Arithmetic.{number}
use Rattle.kmeans_layout.specs.State.{State}
use Rattle.kmeans_assign.specs.Pass.{Pass, pass_of}
use Rattle.kmeans_update.specs.Update.{Update, update_of}
use Rattle.kmeans_sums.specs.Sums.{norms_up_to}

-- a run: the state, the products made and saved, the doubled picks and the rounds begun
pub record Run : Type 0 where
  pub state : State
  pub counts : Counts
  pub doubled : ℕ
  pub begun : ℕ

-- ---- before the first round
unfoldable pub started_from : (coords : List Float) (m k d : ℕ) → List Float → State
started_from coords m k d seeds =
    record {
      centers = seeds;
      scale = norms_up_to coords d m;
      low = replicate m (inf true);
      high = replicate m (inf false);
      served = replicate m (inf true);
      drift = replicate k (number 1);
      labels = replicate m 0;
    }

abbrev pub fresh_run : State → Run
fresh_run s = record { state = s; counts = no_counts; doubled = 0; begun = 0 }

-- ---- the rounds

-- the round's pass counted, and the round begun; then its update
abbrev pub after_pass : Run → Pass → Run
after_pass r p =
    record { state = p.state; counts = plus_of r.counts p.counts; doubled = r.doubled; begun = r.begun + 1 }

abbrev pub after_update : Run → Update → Run
after_update r u =
    record { state = u.state; counts = r.counts; doubled = r.doubled + u.doubled; begun = r.begun }

-- the end, if no label changed after the first round
abbrev pub ends_at : ℕ → Pass → Bool
ends_at it p = not p.changed && ltb 0 it

module _ (weights coords : List Float) (m k d : ℕ) where
  -- n rounds more at most, from round `it` on
  unfoldable pub rounds_from : (n it : ℕ) → Run → Run
  rounds_from zero it r = r
  rounds_from (suc n) it r =
      let p = pass_of coords m k d it r.state in
      let counted = after_pass r p in
      cond (ends_at it p) counted
      (rounds_from n (it + 1) (after_update counted (update_of weights coords m k d p.state)))

  abbrev pub lloyd_of : (rounds : ℕ) → List Float → Run
  lloyd_of rounds seeds = rounds_from rounds 0 (fresh_run (started_from coords m k d seeds))
