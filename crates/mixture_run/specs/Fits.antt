-- Document 01, 'Mixture': one run of `movmf_once`, from its warm start to its log-likelihood, and what a fit makes of
-- it. Definitions only.
use Rattle.std.specs.Prelude.{List, true, ℕ, zero, suc, ◌*◌, get_or, set, replicate, Float}
use Rattle.std.specs.Float.{nan, inf, binary64}
use Rattle.std.specs.Float.Ieee.{add}
use Rattle.float.specs.Arithmetic.{f64, plus_zero, sum_from, max_of}
use Rattle.logarithm.specs.Logarithm.{ln_of}
use Rattle.counts.specs.declared.Counts.{Counts}
use Rattle.rows.specs.Rows.{row_of}
use Rattle.rows.specs.Tabulate.{tabulate}
use Rattle.pick.specs.Places.{argmax_of}
use Rattle.kmeans_sums.specs.Sums.{norms_up_to, sums_up_to}
use Rattle.kmeans_lloyd.specs.Results.{Result, result_of}
use Rattle.mixture_kappa.specs.Kappas.{kappas_of}
use Rattle.mixture_run.specs.Mixture.{Model, Em, even_weight, em_from}
use Rattle.mixture_kappa.specs.Groups.{log_norm_of}
use Rattle.mixture_kappa.specs.declared.Kappa.{Kappa}
use Rattle.mixture_kappa.specs.declared.Settings.{Settings}

-- ---- `init_kappas`: the weights of the groups that the first n labels make
module _ (weights : List Float) (labels : List ℕ) (k : ℕ) where
  unfoldable pub label_totals_up_to : ℕ → List Float
  label_totals_up_to zero = replicate k plus_zero
  label_totals_up_to (suc i) =
      let done = label_totals_up_to i in
      let c = get_or labels i 0 in
      set done c (add binary64 (get_or done c nan) (get_or weights i nan))

-- the concentrations of labelled groups, the whole weight being added from +0
abbrev pub start_kappas_by : Kappa → (k d : ℕ) (sums totals : List Float) → List Float
start_kappas_by kappa k d sums totals = kappas_of kappa k d (norms_up_to sums d k) totals (sum_from plus_zero totals)

abbrev pub start_kappas : Kappa → (weights coords : List Float) (labels : List ℕ) (m k d : ℕ) → List Float
start_kappas kappa weights coords labels m k d =
    start_kappas_by kappa k d (sums_up_to weights coords labels k d m) (label_totals_up_to weights labels k m)

-- before the first round: no responsibilities, weights 1/k, the warm start's directions, log-likelihood −infinity
abbrev pub start_from : Kappa → (weights coords : List Float) (m k d : ℕ) → Result → Em
start_from kappa weights coords m k d warm =
    record {
      resp = replicate (m * k) plus_zero;
      model =
          record {
            weights = replicate k (even_weight k);
            directions = warm.centers;
            kappas = start_kappas kappa weights coords warm.labels m k d;
          };
      loglik = inf true;
    }

-- the warm start: 50 rounds, one restart
abbrev pub warm_rounds : ℕ
warm_rounds = 50

abbrev pub warm_of : (weights coords : List Float) (m k d seed : ℕ) → Result
warm_of weights coords m k d seed = result_of weights coords m k d warm_rounds seed

-- ---- one run: what the rounds leave, and the counts of its warm start
pub record Once : Type 0 where
  pub em : Em
  pub counts : Counts

module _ (s : Settings) (weights coords : List Float) (m k d : ℕ) where
  abbrev pub once_from : Result → Once
  once_from warm =
      record {
        em = em_from s.kappa weights coords m k d s.rounds 0 (start_from s.kappa weights coords m k d warm);
        counts = warm.counts;
      }

  unfoldable pub once_of : Once
  once_of = once_from (warm_of weights coords m k d s.seed)

-- ---- what a fit makes of a run: labels, the first greatest responsibility of each leaf, and logw
abbrev pub labels_of : (resp : List Float) (m k : ℕ) → List ℕ
labels_of resp m k = tabulate (λ (i : ℕ). argmax_of (row_of resp k i)) m

-- `ln_weight`, with its own floor 2^−1022
abbrev pub ln_weight : (weight : Float) → Float
ln_weight weight = ln_of (max_of weight (f64 0x0010000000000000))

abbrev pub logw_at : (d : ℕ) → Model → (c : ℕ) → Float
logw_at d p c = add binary64 (ln_weight (get_or p.weights c nan)) (log_norm_of d (get_or p.kappas c nan))

abbrev pub logw_of : (k d : ℕ) → Model → List Float
logw_of k d p = tabulate (logw_at d p) k
