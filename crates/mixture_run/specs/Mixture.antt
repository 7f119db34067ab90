-- Document 01, 'Mixture': the rounds of `movmf_once`, in vmf.rs's order of operations. Definitions only.
use Rattle.std.specs.Prelude.{List, [], ◌++◌, Bool, ◌&&◌, cond, ℕ, zero, suc, ◌+◌, ◌*◌, ltb}
use Rattle.std.specs.Prelude.{get_or, set, replicate, Float}
use Rattle.std.specs.Float.{nan, binary64}
use Rattle.std.specs.Float.Ieee.{add, sub, mul, div, lt, le}
use Rattle.float.specs.Arithmetic.{f64, number, plus_zero, minus_zero, sum_from, max_of, abs_of}
use Rattle.rows.specs.Rows.{row_of, put_part}
use Rattle.rows.specs.Tabulate.{tabulate}
use Rattle.vector.specs.Vectors.{dot_of}
use Rattle.kmeans_sums.specs.Sums.{add_leaf, norms_up_to, center_by}
use Rattle.mixture_softmax.specs.Softmax.{log_sum_exp, shares_of}
use Rattle.mixture_kappa.specs.Groups.{log_coefficient}
use Rattle.mixture_kappa.specs.Kappas.{kappas_of}
use Rattle.mixture_kappa.specs.declared.Kappa.{Kappa}

-- what the groups are: their weights, directions row by row, and concentrations
pub record Model : Type 0 where
  pub weights : List Float
  pub directions : List Float
  pub kappas : List Float

-- ---- the log coefficient, ln weight + log normalizer, of group c and of all k
abbrev pub log_coefficient_at : (d : ℕ) → Model → (c : ℕ) → Float
log_coefficient_at d p c = log_coefficient d (get_or p.weights c nan) (get_or p.kappas c nan)

abbrev pub log_coefficients : (k d : ℕ) → Model → List Float
log_coefficients k d p = tabulate (log_coefficient_at d p) k

-- ---- the E-step

-- logr of leaf x and group c, its log density there: log coefficient + concentration · dot
abbrev pub log_density_at : (d : ℕ) (coefficients : List Float) → Model → (x : List Float) (c : ℕ) → Float
log_density_at d coefficients p x c =
    add binary64 (get_or coefficients c nan) (mul binary64 (get_or p.kappas c nan) (dot_of x (row_of p.directions d c)))

abbrev pub log_densities : (k d : ℕ) (coefficients : List Float) → Model → (x : List Float) → List Float
log_densities k d coefficients p x = tabulate (log_density_at d coefficients p x) k

-- the responsibilities of a leaf, by its log densities
abbrev pub softmax : List Float → List Float
softmax logr = shares_of (log_sum_exp logr) logr

-- the responsibilities of the leaves so far, row by row, and the log-likelihood, summed with weights in leaf order
-- from +0
pub record Expected : Type 0 where
  pub resp : List Float
  pub loglik : Float

abbrev pub expect_leaf : (weight : Float) (logr : List Float) → Expected → Expected
expect_leaf weight logr e =
    record { resp = e.resp ++ softmax logr; loglik = add binary64 e.loglik (mul binary64 weight (log_sum_exp logr)) }

module _ (weights coords : List Float) (k d : ℕ) (coefficients : List Float) (p : Model) where
  unfoldable pub expect_up_to : ℕ → Expected
  expect_up_to zero = record { resp = []; loglik = plus_zero }
  expect_up_to (suc i) =
      expect_leaf (get_or weights i nan) (log_densities k d coefficients p (row_of coords d i)) (expect_up_to i)

-- ---- the M-step

-- the sufficient statistics of the groups: whole weights and resultants
pub record Statistics : Type 0 where
  pub totals : List Float
  pub sums : List Float

-- group c gains leaf x with this weight
abbrev pub accumulate_group : (d : ℕ) (w : Float) (x : List Float) (c : ℕ) → Statistics → Statistics
accumulate_group d w x c g =
    record { totals = set g.totals c (add binary64 (get_or g.totals c nan) w); sums = add_leaf g.sums d c w x }

-- the first n groups gain leaf x, each its weight times its responsibility
module _ (d : ℕ) (weight : Float) (resp x : List Float) (g : Statistics) where
  unfoldable pub accumulate_leaf : ℕ → Statistics
  accumulate_leaf zero = g
  accumulate_leaf (suc c) = accumulate_group d (mul binary64 weight (get_or resp c nan)) x c (accumulate_leaf c)

-- of the first n leaves
module _ (weights coords resp : List Float) (k d : ℕ) where
  unfoldable pub statistics_up_to : ℕ → Statistics
  statistics_up_to zero = record { totals = replicate k plus_zero; sums = replicate (k * d) plus_zero }
  statistics_up_to (suc i) =
      accumulate_leaf d (get_or weights i nan) (row_of resp k i) (row_of coords d i) (statistics_up_to i) k

-- a group's share of the whole weight; 1/k where that is not above 0
abbrev pub even_weight : (k : ℕ) → Float
even_weight k = div binary64 (number 1) (number k)

module _ (k : ℕ) (whole : Float) where
  abbrev pub weight_by : (total : Float) → Float
  weight_by total = cond (lt plus_zero whole) (div binary64 total whole) (even_weight k)

  abbrev pub weight_at : (totals : List Float) (c : ℕ) → Float
  weight_at totals c = weight_by (get_or totals c nan)

-- the first n directions: the resultant over its length, where that is above 0
module _ (d : ℕ) (sums old : List Float) where
  unfoldable pub directions_up_to : ℕ → List Float
  directions_up_to zero = old
  directions_up_to (suc c) =
      let done = directions_up_to c in
      put_part done (c * d) d (center_by (row_of sums d c) (row_of done d c))

module _ (kappa : Kappa) (k d : ℕ) (p : Model) (g : Statistics) where
  abbrev pub maximize_by : (whole : Float) → Model
  maximize_by whole =
      record {
        weights = tabulate (weight_at k whole g.totals) k;
        directions = directions_up_to d g.sums p.directions k;
        kappas = kappas_of kappa k d (norms_up_to g.sums d k) g.totals whole;
      }

  -- the whole weight is summed from −0
  abbrev pub maximize : Model
  maximize = maximize_by (sum_from minus_zero g.totals)

-- ---- the rounds: the responsibilities, the groups and the log-likelihood
pub record Em : Type 0 where
  pub resp : List Float
  pub model : Model
  pub loglik : Float

-- 1e-7
abbrev pub tolerance : Float
tolerance = f64 0x3E7AD7F29ABCAF48

-- after the first round: |new − old| ≤ 1e-7 · max(|old|, 1)
abbrev pub stops_at : (it : ℕ) (old new : Float) → Bool
stops_at it old new =
    ltb 0 it && le (abs_of (sub binary64 new old)) (mul binary64 tolerance (max_of (abs_of old) (number 1)))

module _ (kappa : Kappa) (weights coords : List Float) (m k d : ℕ) where
  abbrev pub round_by : Model → Expected → Em
  round_by p e =
      record {
        resp = e.resp;
        model = maximize kappa k d p (statistics_up_to weights coords e.resp k d m);
        loglik = e.loglik;
      }

  abbrev pub em_round : Model → Em
  em_round p = round_by p (expect_up_to weights coords k d (log_coefficients k d p) p m)

  -- n rounds more at most, from round `it` on
  unfoldable pub em_from : (n it : ℕ) → Em → Em
  em_from zero it s = s
  em_from (suc n) it s =
      let next = em_round s.model in
      cond (stops_at it s.loglik next.loglik) next (em_from n (it + 1) next)
