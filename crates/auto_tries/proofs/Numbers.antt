-- One number fitted, and all numbers of a range: what the four runs keep is the lone fit, so the choice, its log-likelihood, the
-- counts and the arrays go on as the definition does. By cases on whether the score beats the one held. Assumes nothing.
use mathlib.Core.Path.{◌≡◌, refl, ap, ap₂, sym, subst, ◌∙◌}
use mathlib.Core.List.{List}
use mathlib.Core.Bool.{Bool, true, false, cond, true≢false}
use Prim.Native.Nat.{ℕ, suc, ◌+◌, ◌*◌, ◌-◌, ◌≤◌}
use native.Mathlib.Omega.{arith}
use lib.ListN.{length, drop, length-drop}
use lib.Seq.{length-take-le}
use lib.Ieee.{Float, lt}
use Rattle.logarithm.specs.Logarithm.{ln_of}
use Rattle.counts.specs.Counts.{plus_of, no_counts, sum_over, AtMost, of_runs}
use Rattle.counts.specs.declared.Counts.{Counts}
use Rattle.counts.proofs.Sums.{at_most_more, at_most_plus}
use Rattle.mixture_kappa.specs.declared.Settings.{Settings}
use Rattle.mixture_run.specs.Mixture.{Em}
use Rattle.limits.specs.declared.Shape.{Shape}
use Rattle.mixture_run.specs.Areas.{em_in, area_em}
use Rattle.mixture_run.specs.declared.layout.Area.{Area}
use Rattle.pick.proofs.Places.{either}
use Rattle.mixture_restarts.specs.Kept.{held_em, kept_loglik}
use Rattle.mixture_restarts.specs.declared.Runs.{Runs}
use Rattle.mixture_restarts.specs.declared.layout.Store.{Store}
use Rattle.mixture_outputs.specs.Outputs.{Outputs, written}
use Rattle.std.specs.Prelude.{Option, None, Some}
use Rattle.auto_choice.specs.Choice.{Choice, number_with, total_of, score_by, held_score, choose_by, choose, chosen}
use Rattle.auto_tries.specs.Lone.{lone, score, chosen_of, counts_of, written_by}
use Rattle.auto_tries.specs.Tries.{choice_of, loglik_of, Full, Tails, loglik_by, FitOfK, Fitted}
use Rattle.auto_tries.specs.declared.Kept.{Kept}
use Rattle.auto_tries.specs.declared.Tally.{Tally}
use Rattle.auto_tries.proofs.Tails.{tails_more, tails_written, written_same}

abbrev pub kept_of : (k : ℕ) (score loglik : Float) → Option Kept
kept_of k score loglik = Some (record { number = record { k = k; score = score }; loglik = loglik })

-- ---- what a run found is as long as its sizes make it, whichever of two it is
found_full : (m k d : ℕ) (directions rest : List Float) (l : Float) → length directions ≡ k * d → k + k + k + k + k + m * k ≤ length rest
    → Full m k d (em_in m k directions rest l)
unfolding em_in
found_full m k d directions rest l e h =
    let one = length-drop k rest in
    let two = length-drop k (drop k rest) in
    let past = length-drop (3 * k) (drop k (drop k rest)) in
    record {
      resp = length-take-le (m * k) (drop (3 * k) (drop k (drop k rest))) (omega (arith, h, one, two, past));
      weights = length-take-le k rest (omega (arith, h));
      directions = e;
      kappas = length-take-le k (drop k rest) (omega (arith, h, one));
    }

module _ (m k d : ℕ) (q : Store) (a : Area) (same : q.shape ≡ a.shape) (l : Float) where
  store_full : Full q.shape.m q.shape.k q.shape.d (held_em q l)
  store_full = found_full q.shape.m q.shape.k q.shape.d q.directions.now q.rest.now l q.sized.directions_long q.sized.rounds_long

  area_full : Full a.shape.m a.shape.k a.shape.d (area_em a l)
  area_full = found_full a.shape.m a.shape.k a.shape.d a.centers.now a.rest.now l a.sized.centers_long a.sized.rounds_long

  pub kept_full : (t : Bool) → a.shape.m ≡ m → a.shape.k ≡ k → a.shape.d ≡ d → Full m k d (cond t (held_em q l) (area_em a l))
  kept_full t em ek ed =
      let one : Full a.shape.m a.shape.k a.shape.d (held_em q l) =
      subst (λ (z : Shape). Full z.m z.k z.d (held_em q l)) same store_full in
      let by : (e : Em) → Full a.shape.m a.shape.k a.shape.d e → Full m k d e = λ e f. (rw (em, ek, ed) at f) in
      either (λ (e : Em). Full m k d e) t (held_em q l) (area_em a l) (by (held_em q l) one) (by (area_em a l) area_full)

-- ---- one number fitted, of which this was found
module _ (weights coords : List Float) (d k : ℕ) (s : Settings) (r : Runs)
    (kept : kept_loglik r.held r.last ≡ (lone weights coords d s k).em.loglik)
    (fit : r.counts ≡ (lone weights coords d s k).counts) (few : AtMost (of_runs 4) r.counts)
    (full : Full (length weights) k d (lone weights coords d s k).em) where
  abbrev m : ℕ
  m = length weights

  abbrev found : Em
  found = (lone weights coords d s k).em

  module _ (t : Tally) (loglik lnTotal x : Float) (beats : Bool) (counts : Counts) (el : loglik ≡ kept_loglik r.held r.last)
      (en : lnTotal ≡ ln_of (total_of weights)) (ex : x ≡ score_by s.kappa k d loglik lnTotal)
      (eb : beats ≡ lt x (held_score (choice_of t.kept))) (ec : counts ≡ plus_of t.counts r.counts) where
    loglik_is : loglik ≡ found.loglik
    loglik_is = el ∙ kept

    score_is : x ≡ score weights coords d s k
    score_is = ex ∙ ap₂ (score_by s.kappa k d) loglik_is en

    test_is : (y : Bool) → beats ≡ y → lt (score weights coords d s k) (held_score (choice_of t.kept)) ≡ y
    test_is y e = ap (λ (z : Float). lt z (held_score (choice_of t.kept))) (sym score_is) ∙ sym eb ∙ e

    choice_is : (y : Bool) → beats ≡ y
        → choose_by y (number_with k x) (choice_of t.kept) ≡ choose (choice_of t.kept) k (score weights coords d s k)
    choice_is y e =
        ap (λ (z : Float). choose_by y (number_with k z) (choice_of t.kept)) score_is
        ∙ ap (λ (z : Bool). choose_by z (number_with k (score weights coords d s k)) (choice_of t.kept)) (sym (test_is y e))

    counted : counts ≡ plus_of t.counts (lone weights coords d s k).counts
    counted = ec ∙ ap (plus_of t.counts) fit

    small : AtMost (of_runs 4) (lone weights coords d s k).counts
    small = subst (AtMost (of_runs 4)) fit few

    pub fitted_kept : (o o' : Outputs) → beats ≡ true → o' ≡ written m k d found o
        → FitOfK weights coords d s k t (record { kept = kept_of k x loglik; counts = counts }) o o'
    fitted_kept o o' taken eo =
        record {
          choice = choice_is true taken;
          counts = counted;
          kept = λ e. (loglik_is, eo);
          left = λ e. absurd (true≢false (sym (test_is true taken) ∙ e));
          full = full;
          small = small;
        }

    pub fitted_left : (o : Outputs) → beats ≡ false
        → FitOfK weights coords d s k t (record { kept = t.kept; counts = counts }) o o
    fitted_left o left =
        record {
          choice = choice_is false left;
          counts = counted;
          kept = λ e. absurd (true≢false (sym e ∙ test_is false left));
          left = λ e. (refl, refl);
          full = full;
          small = small;
        }

-- ---- one number more
module _ (o₀ : Outputs) (weights coords : List Float) (d : ℕ) (s : Settings) (lo : ℕ) where
  pub fitted_start : (t : Tally) → t ≡ record { kept = None; counts = no_counts }
      → Fitted weights coords d s o₀ lo (lo - lo) t o₀
  unfolding chosen sum_over
  fitted_start t e =
      let f : lo - lo ≡ 0 = omega arith in
      rw f
      (record {
        choice = ap (λ (x : Tally). choice_of x.kept) e;
        loglik = ap (λ (x : Tally). loglik_of x.kept) e;
        counts = ap (λ (x : Tally). x.counts) e;
        outputs = refl;
      })

  module _ (k n : ℕ) (t q : Tally) (o o' : Outputs) (fit : FitOfK weights coords d s k t q o o') (tails : Tails (length weights) k d o o₀)
    where
      abbrev beaten : Bool
      beaten = lt (score weights coords d s k) (held_score (choice_of t.kept))

      tails_by : (y : Bool) → beaten ≡ y → Tails (length weights) (k + 1) d o' o₀
      tails_by true e =
          let em = (lone weights coords d s k).em in
          let same = (fit.kept e).1 ∙ written_same (length weights) k d em o o₀ tails in
          subst (λ (z : Outputs). Tails (length weights) (k + 1) d z o₀) (sym same) (tails_written (length weights) k d em o₀ fit.full)
      tails_by false e =
          subst (λ (z : Outputs). Tails (length weights) (k + 1) d z o₀) (sym (fit.left e).1) (tails_more (length weights) k d o o₀ tails)

      pub tails_turn : Tails (length weights) (k + 1) d o' o₀
      tails_turn = tails_by beaten refl

      -- what goes with the choice, by whether the score beats the one held
      chosen_by : (y : Bool) → beaten ≡ y → loglik_of t.kept ≡ loglik_by weights coords d s (choice_of t.kept)
          → o ≡ written_by weights coords d s (choice_of t.kept) o₀
          → let c = choose_by y (number_with k (score weights coords d s k)) (choice_of t.kept) in
          (loglik_of q.kept ≡ loglik_by weights coords d s c) × (o' ≡ written_by weights coords d s c o₀)
      chosen_by true e el eo =
          ((fit.kept e).0, (fit.kept e).1 ∙ written_same (length weights) k d (lone weights coords d s k).em o o₀ tails)
      chosen_by false e el eo = (ap loglik_of (fit.left e).0 ∙ el, (fit.left e).1 ∙ eo)

      fitted_next : lo + n ≡ k → Fitted weights coords d s o₀ lo n t o → Fitted weights coords d s o₀ lo (suc n) q o'
      unfolding chosen sum_over
      fitted_next at v =
          let c = chosen_of weights coords d s lo n in
          let x = score weights coords d s k in
          let ec : choice_of q.kept ≡ choose c k x = fit.choice ∙ ap (λ (z : Choice). choose z k x) v.choice in
          let lw = chosen_by beaten refl (v.loglik ∙ ap (loglik_by weights coords d s) (sym v.choice))
          (v.outputs ∙ ap (λ (z : Choice). written_by weights coords d s z o₀) (sym v.choice)) in
          let next : choose c k x ≡ choose c (lo + n) (score weights coords d s (lo + n)) =
          ap (λ (j : ℕ). choose c j (score weights coords d s j)) (sym at) in
          let same = ap (λ (z : Choice). choose z k x) v.choice ∙ next in
          record {
            choice = ec ∙ next;
            loglik = lw.0 ∙ ap (loglik_by weights coords d s) same;
            counts =
                fit.counts ∙ ap (λ (z : Counts). plus_of z (lone weights coords d s k).counts) v.counts
                ∙ ap (λ (j : ℕ). plus_of (counts_of weights coords d s lo n) (lone weights coords d s j).counts) (sym at);
            outputs = lw.1 ∙ ap (λ (z : Choice). written_by weights coords d s z o₀) same;
          }

      pub fitted_turn : lo ≤ k → n ≡ k - lo → Fitted weights coords d s o₀ lo n t o → Fitted weights coords d s o₀ lo (k + 1 - lo) q o'
      fitted_turn h e v =
          let f : k + 1 - lo ≡ suc n = omega arith in
          let g : lo + n ≡ k = omega arith in
          rw f (fitted_next g v)

      pub small_turn : lo ≤ k → AtMost (of_runs (4 * (k - lo))) t.counts → AtMost (of_runs (4 * (k + 1 - lo))) q.counts
      small_turn h v = rw fit.counts (at_most_more (omega arith) (at_most_plus v fit.small))
