-- A run more: what is held after it is what the definition keeps, and what the keeper hands back is what the fit found. By the way that
-- the test went. Assumes nothing.
use mathlib.Core.Path.{◌≡◌, refl, ap, sym, ◌∙◌}
use mathlib.Core.Bool.{Bool, true, false, cond, not, true≢false}
use Prim.Native.Nat.{ℕ, suc, ◌+◌, ◌-◌, ◌≤◌}
use native.Mathlib.Omega.{arith}
use lib.Ieee.{Float, le}
use Rattle.counts.proofs.Sums.{at_most_more, at_most_plus}
use Rattle.pick.proofs.Places.{either}
use Rattle.kmeans_layout.specs.declared.Held.{Held}
use Rattle.mixture_kappa.specs.declared.Settings.{Settings}
use Rattle.mixture_run.specs.Mixture.{Em}
use Rattle.mixture_run.specs.Fits.{Once}
use Rattle.kmeans_layout.specs.Kept.{kept_of}
use Rattle.mixture_run.specs.Areas.{em_in, area_em}
use Rattle.mixture_run.specs.declared.layout.Area.{Area}
use Rattle.mixture_restarts.specs.Runs.{keep, runs_up_to}
use Rattle.mixture_restarts.specs.Kept.{held_em, run_in, runs_in, fit_in, Holds, OneMore, Both, kept_loglik}
use Rattle.mixture_restarts.specs.declared.Runs.{Runs}
use Rattle.mixture_restarts.specs.declared.layout.Store.{Store}

-- ---- one run more, which found l in the area a: what is held then, by the way that the test went
module _ (h h' : Held) (q q' : Store) (a : Area) (run : Once) (l : Float) (em : area_em a l ≡ run.em)
    (value : h'.value ≡ kept_of h.value l h.value l) where
  taken_by : (t : Bool) (v : Float) → v ≡ cond t h.value l → not t ≡ true → ((x : Float) → held_em q' x ≡ area_em a x)
      → held_em q' v ≡ cond t (held_em q h.value) run.em
  taken_by true v e n f = absurd (true≢false (sym n))
  taken_by false v e n f = rw e (f l ∙ em)

  left_by : (t : Bool) (v : Float) → v ≡ cond t h.value l → not t ≡ false → held_em q v ≡ cond t (held_em q h.value) run.em
  left_by true v e n = rw e
  left_by false v e n = absurd (true≢false n)

  by_own : ◌≡◌ {A = Em} (kept_of h.value l (held_em q h.value) run.em) (kept_of h.value run.em.loglik (held_em q h.value) run.em)
  unfolding em_in
  by_own = ap (λ (x : Float). kept_of h.value x (held_em q h.value) run.em) (ap (λ (e : Em). e.loglik) em)

  module _ (g : Bool) (is : g ≡ not (le l h.value)) where
    pub taken : g ≡ true → ((x : Float) → held_em q' x ≡ area_em a x)
        → held_em q' h'.value ≡ kept_of h.value run.em.loglik (held_em q h.value) run.em
    taken b f = taken_by (le l h.value) h'.value value (sym is ∙ b) f ∙ by_own

    pub left : g ≡ false → held_em q h'.value ≡ kept_of h.value run.em.loglik (held_em q h.value) run.em
    left b = left_by (le l h.value) h'.value value (sym is ∙ b) ∙ by_own

-- ---- what is held after it
kept_turn : (t : ℕ) (a₀ a a' : Area) (q q' : Store) (held run : Once) (h h' : Held) → Holds held a₀ a q t h → OneMore run a a' q q' h h'
    → Holds (keep held run) a₀ a' q' (t + 1) h'
unfolding em_in
kept_turn t a₀ a a' q q' held run h h' v x =
    let value : h.value ≡ held.em.loglik = ap (λ (e : Em). e.loglik) v.there in
    record {
      same = (x.same.0 ∙ v.same.0, x.same.1 ∙ v.same.1);
      same_held = x.same_held ∙ v.same_held;
      there = x.there ∙ rw (v.there, value);
      counts = x.counts ∙ rw v.counts;
      small = rw x.counts (at_most_more (omega arith) (at_most_plus v.small x.small));
    }

pub runs_turn : (a₀ : Area) (s : Settings) (t : ℕ) (a a' : Area) (q q' : Store) (h h' : Held) → 1 ≤ t
    → Holds (runs_in a₀ s (t - 1)) a₀ a q t h → OneMore (run_in a s t) a a' q q' h h'
    → Holds (runs_in a₀ s (t + 1 - 1)) a₀ a' q' (t + 1) h'
unfolding runs_up_to
runs_turn a₀ s t a a' q q' h h' le v x =
    let f : t + 1 - 1 ≡ suc (t - 1) = omega arith in
    let g : suc (t - 1) ≡ t = omega arith in
    let same : run_in a s t ≡ run_in a₀ s t = rw (v.same.0, v.same.1) in
    rw (f, g) (kept_turn t a₀ a a' q q' (runs_in a₀ s (t - 1)) (run_in a₀ s t) h h' v (rw same at x))

-- ---- the keeper
module _ (a₀ a : Area) (q : Store) (s : Settings) (r : Runs) (both : Both (runs_in a₀ s 2) (run_in a₀ s 3) a₀ a q r) where
  abbrev held : Once
  held = runs_in a₀ s 2

  abbrev last : Once
  last = run_in a₀ s 3

  chosen : (t : Bool) → cond t (held_em q (cond t r.held r.last)) (area_em a (cond t r.held r.last)) ≡ cond t held.em last.em
  chosen true = both.there
  chosen false = both.beside

  -- what the kept one found, with its log-likelihood, is what the fit found
  pub kept_em : let l = kept_loglik r.held r.last in
      kept_of r.held r.last (held_em q l) (area_em a l) ≡ (fit_in a₀ s).em
  unfolding runs_up_to em_in
  kept_em =
      let el : r.last ≡ last.em.loglik = ap (λ (e : Em). e.loglik) both.beside in
      let eh : r.held ≡ held.em.loglik = ap (λ (e : Em). e.loglik) both.there in
      let t : le r.last r.held ≡ le last.em.loglik held.em.loglik = rw (el, eh) in
      chosen (le r.last r.held) ∙ ap (λ (x : Bool). cond x held.em last.em) t

  pub kept_loglik_is : kept_loglik r.held r.last ≡ (fit_in a₀ s).em.loglik
  unfolding em_in
  kept_loglik_is =
      let l = kept_loglik r.held r.last in
      sym (either (λ (e : Em). e.loglik ≡ l) (le r.last r.held) (held_em q l) (area_em a l) refl refl)
      ∙ ap (λ (e : Em). e.loglik) kept_em

  pub kept_counts : r.counts ≡ (fit_in a₀ s).counts
  unfolding runs_up_to
  kept_counts = both.counts
