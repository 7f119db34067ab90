-- A whole run from its calls: the warm start; the concentrations of its groups, the clearing and the rounds; and where in the rest of an
-- area the rounds leave what they find. Over plain lists and parts. Assumes nothing.
use mathlib.Core.Path.{◌≡◌, refl, ap, ◌∙◌}
use mathlib.Core.List.{List, ◌++◌}
use mathlib.Core.Bool.{true}
use Prim.Native.Nat.{ℕ, ◌+◌, ◌*◌}
use native.Mathlib.Omega.{arith}
use lib.ListN.{length, take, drop, replicate}
use lib.Seq.{take_at, drop_at, drop-drop}
use lib.Ieee.{Float, inf}
use Rattle.float.specs.Arithmetic.{plus_zero}
use Rattle.kmeans_sums.specs.Sums.{sums_up_to}
use Rattle.kmeans_lloyd.specs.declared.RunEnd as warm-end
use Rattle.mixture_kappa.specs.declared.Kappa.{Kappa}
use Rattle.mixture_kappa.specs.declared.Settings.{Settings}
use Rattle.mixture_run.specs.Mixture.{even_weight, em_from}
use Rattle.mixture_run.specs.Fits.{label_totals_up_to, start_kappas_by, start_from, warm_of, once_of}
use Rattle.mixture_run.specs.Areas.{Parts, em_of, em_in, area_em, with_resp, with_weights, started_with, WarmDone, RunDone}
use Rattle.mixture_run.specs.declared.layout.Area.{Area}

-- ---- the rest of an area after its rounds
thrice : (k : ℕ) (l : List Float) → drop k (drop k (drop k l)) ≡ drop (3 * k) l
thrice k l =
    let e : k + (k + k) ≡ 3 * k = omega arith in
    drop-drop k k (drop k l) ∙ drop-drop (k + k) k l ∙ ap (λ (n : ℕ). drop n l) e

module _ (m k : ℕ) (p : Parts) (r : Float) (tail : List Float) (lw : length p.weights ≡ k) (lk : length p.kappas ≡ k)
    (ll : length p.log_coefficients ≡ k) (lt : length p.totals ≡ k) (ln : length p.norms ≡ k) (lr : length p.resp ≡ m * k) where
  abbrev after_norms : List Float
  after_norms = p.resp ++ tail

  abbrev after_kappas : List Float
  after_kappas = p.log_coefficients ++ (p.totals ++ (p.norms ++ after_norms))

  -- the parts side by side
  abbrev pub laid : List Float
  laid = p.weights ++ (p.kappas ++ after_kappas)

  past_others : drop (3 * k) after_kappas ≡ after_norms
  past_others =
      let one = drop_at p.log_coefficients (p.totals ++ (p.norms ++ after_norms)) k ll in
      let two = drop_at p.totals (p.norms ++ after_norms) k lt in
      let three = drop_at p.norms after_norms k ln in
      rw (← thrice k after_kappas, one, two, three) refl

  pub rest_em : (directions rest : List Float) → directions ≡ p.directions → rest ≡ laid → em_in m k directions rest r ≡ em_of p r
  unfolding em_in
  rest_em directions rest ed er =
      let one = drop_at p.weights (p.kappas ++ after_kappas) k lw in
      let two = drop_at p.kappas after_kappas k lk in
      let w : take k laid ≡ p.weights = take_at p.weights (p.kappas ++ after_kappas) k lw in
      let c : take k (drop k laid) ≡ p.kappas = rw one (take_at p.kappas after_kappas k lk) in
      let s : take (m * k) (drop (3 * k) (drop k (drop k laid))) ≡ p.resp =
      rw (one, two, past_others) (take_at p.resp tail (m * k) lr) in
      rw (er, w, c, s, ed) refl

-- ---- the rounds
pub rounds_done : (kappa : Kappa) (weights coords : List Float) (labels : List ℕ) (m k d rounds : ℕ) (directions sums : List Float)
    (p₁ p₂ p₃ : Parts) (r : Float)
    → (p₁.directions ≡ directions) × (p₁.kappas ≡ start_kappas_by kappa k d sums (label_totals_up_to weights labels k m))
    → p₂ ≡ with_resp (replicate (m * k) plus_zero) (with_weights (replicate k (even_weight k)) p₁)
    → em_of p₃ r ≡ em_from kappa weights coords m k d rounds 0 (em_of p₂ (inf true))
    → em_of p₃ r ≡ em_from kappa weights coords m k d rounds 0 (started_with kappa weights labels m k d directions sums)
rounds_done kappa weights coords labels m k d rounds directions sums p₁ p₂ p₃ r start cleared done =
    let from : em_of p₂ (inf true) ≡ started_with kappa weights labels m k d directions sums = rw (cleared, start.0, start.1) in
    done ∙ ap (em_from kappa weights coords m k d rounds 0) from

-- ---- the whole run
pub run_done : (s : Settings) (weights coords : List Float) (m k d : ℕ) (centers sums : List Float) (labels : List ℕ) (a : Area)
    (x : warm-end.RunEnd) (r : Float)
    → WarmDone (warm_of weights coords m k d s.seed) centers labels x
    → sums ≡ sums_up_to weights coords labels k d m
    → area_em a r ≡ em_from s.kappa weights coords m k d s.rounds 0 (started_with s.kappa weights labels m k d centers sums)
    → RunDone (once_of s weights coords m k d) a (record { loglik = r; counts = x.counts })
unfolding once_of
run_done s weights coords m k d centers sums labels a x r done left rounds =
    let warm = warm_of weights coords m k d s.seed in
    let from : started_with s.kappa weights labels m k d centers sums ≡ start_from s.kappa weights coords m k d warm =
    rw (left, done.centers, done.labels) in
    record {
      em = rounds ∙ ap (em_from s.kappa weights coords m k d s.rounds 0) from;
      counts = done.counts;
      small = done.small;
    }
