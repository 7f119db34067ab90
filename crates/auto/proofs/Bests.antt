-- The automatic fit keeps exactly the best number of its range: the answer goes by the choice among the scores, which is the best
-- number or none. By cases on the choice. Assumes nothing.
use mathlib.Core.Path.{refl, subst}
use mathlib.Core.List.{List}
use mathlib.Core.Bool.{false}
use Prim.Native.Nat.{ℕ, ◌+◌, ◌-◌, ◌*◌, ◌≤◌}
use native.Mathlib.Omega.{arith}
use lib.Dec.{T_not}
use lib.ListN.{length}
use lib.Ieee.{Float, inf, lt}
use Rattle.counts.specs.Counts.{sum_over}
use Rattle.counts.specs.declared.Counts.{Counts}
use Rattle.mixture_kappa.specs.declared.Settings.{Settings}
use Rattle.mixture_outputs.specs.Outputs.{Outputs}
use Rattle.std.specs.Prelude.{Some, None}
use Rattle.auto_choice.specs.Choice.{Choice, BestOf}
use Rattle.auto_choice.proofs.Choices.{Means, chosen_means, one_best}
use Rattle.auto_tries.specs.Lone.{score, chosen_of, counts_of, written_by}
use Rattle.auto.specs.Outcome.{answer_by, ended}
use Rattle.auto.specs.Answers.{Numbers, numbers_of}
use Rattle.auto.specs.Best.{Best}
use Rattle.auto.proofs.Products.{work_sum, work_most}

module _ (o : Outputs) (weights coords : List Float) (d : ℕ) (s : Settings) (lo hi : ℕ) (order : lo ≤ hi) (found : Numbers) where
  abbrev n : ℕ
  n = hi + 1 - lo

  abbrev scores : ℕ → Float
  scores = score weights coords d s

  abbrev counts : Counts
  counts = counts_of weights coords d s lo n

  limit : counts.made + counts.saved ≤ 200 * length weights * sum_over (λ (j : ℕ). j) lo n
  limit = omega (arith, work_sum weights coords d s lo n, work_most weights coords d s lo n)

  best_by : (c : Choice) → Means scores lo n c
      → Best weights coords d s lo hi (numbers_of found (answer_by weights coords d s counts c)) o (written_by weights coords d s c o)
  best_by None m =
      record {
        kept_is_best = λ e. absurd (omega (arith, e));
        best_is_kept = λ k b. absurd (T_not (lt (scores k) (inf false)) (m k b.least (omega (arith, b.most))) b.below);
        seven_is_none = λ e j p q. m j p (omega arith);
        none_is_seven = λ e. refl;
        values = λ e. absurd (omega (arith, e));
        untouched = λ e. refl;
        made = refl;
        saved = refl;
        work = work_sum weights coords d s lo n;
        limit = limit;
      }
  best_by (Some c) m =
      let k = c.k in
      let best : BestOf scores lo hi k = subst (λ (i : ℕ). BestOf scores lo i k) (omega arith) m.1 in
      record {
        kept_is_best = λ e. best;
        best_is_kept = λ j b. (refl, one_best scores lo hi k j best b);
        seven_is_none = λ e. absurd (omega (arith, e));
        none_is_seven = λ e. absurd (T_not (lt (scores k) (inf false)) (e k best.least best.most) best.below);
        values = λ e. (m.0, refl, refl);
        untouched = λ e. absurd (omega (arith, e));
        made = refl;
        saved = refl;
        work = work_sum weights coords d s lo n;
        limit = limit;
      }

  pub ended_best : let e = ended o weights coords d s lo hi in Best weights coords d s lo hi (numbers_of found e.answer) o e.outputs
  ended_best = best_by (chosen_of weights coords d s lo n) (chosen_means scores lo n)
