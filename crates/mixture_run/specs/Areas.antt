-- What a run of the mixture holds in its work area, and what the functions on it promise. No definition of document 01
-- stands on this file.
use Rattle.std.specs.Prelude.{◌≡◌, List, true, ℕ, ◌+◌, ◌*◌, replicate, Float}
use Rattle.std.specs.Float.{inf}
use Rattle.float.specs.Arithmetic.{plus_zero}
use Rattle.counts.specs.Counts.{AtMost, of_runs}
use Rattle.rows.specs.Tabulate.{tabulate}
use Rattle.mixture_kappa.specs.declared.Settings.{Settings}
use Rattle.mixture_kappa.specs.declared.Kappa.{Kappa}
use Rattle.kmeans_lloyd.specs.Results.{Result}
use Rattle.kmeans_lloyd.specs.declared.RunEnd.{RunEnd as WarmEnd}
use Rattle.mixture_run.specs.Mixture.{Model, Statistics, Em, log_density_at, even_weight}
use Rattle.mixture_run.specs.Fits.{label_totals_up_to, start_kappas_by, Once, once_of}
use Rattle.mixture_run.specs.declared.RunEnd.{RunEnd}
use Rattle.mixture_run.specs.Sized.{weights_in, kappas_in, responsibilities_in}
use Rattle.mixture_run.specs.declared.layout.Area.{Area}
use Rattle.mixture_run.specs.declared.layout.Groups.{Groups}
use Rattle.mixture_run.specs.declared.layout.Found.{Found}

-- the directions and resultants; of each group its weight, concentration, log coefficient, whole weight and length of
-- resultant; the responsibilities
pub record Parts : Type 0 where
  pub directions : List Float
  pub sums : List Float
  pub weights : List Float
  pub kappas : List Float
  pub log_coefficients : List Float
  pub totals : List Float
  pub norms : List Float
  pub resp : List Float

abbrev pub parts_of : Groups → Parts
parts_of a =
    record {
      directions = a.directions.now;
      sums = a.sums.now;
      weights = a.weights.now;
      kappas = a.kappas.now;
      log_coefficients = a.log_coefficients.now;
      totals = a.totals.now;
      norms = a.norms.now;
      resp = a.responsibilities.now;
    }

-- nothing of a run changes the sizes and leaves of its area
abbrev pub Same : (a a' : Area) → Type 0
Same a a' = (a'.shape ≡ a.shape) × (a'.leaves ≡ a.leaves)

-- and its rounds go on in the same arrays
abbrev pub SameArrays : (a a' : Groups) → Type 0
SameArrays a a' =
    (a'.directions.ghost_name ≡ a.directions.ghost_name) × (a'.sums.ghost_name ≡ a.sums.ghost_name)
    × (a'.weights.ghost_name ≡ a.weights.ghost_name) × (a'.kappas.ghost_name ≡ a.kappas.ghost_name)
    × (a'.log_coefficients.ghost_name ≡ a.log_coefficients.ghost_name)
    × (a'.totals.ghost_name ≡ a.totals.ghost_name) × (a'.norms.ghost_name ≡ a.norms.ghost_name)
    × (a'.responsibilities.ghost_name ≡ a.responsibilities.ghost_name)

abbrev pub SameGroups : (a a' : Groups) → Type 0
SameGroups a a' = (a'.shape ≡ a.shape) × (a'.leaves ≡ a.leaves) × (SameArrays a a')

-- with another list in one place
abbrev parts : (directions sums weights kappas log_coefficients totals norms resp : List Float) → Parts
parts directions sums weights kappas log_coefficients totals norms resp =
    record {
      directions = directions;
      sums = sums;
      weights = weights;
      kappas = kappas;
      log_coefficients = log_coefficients;
      totals = totals;
      norms = norms;
      resp = resp;
    }

abbrev pub with_directions : List Float → Parts → Parts
with_directions l p = parts l p.sums p.weights p.kappas p.log_coefficients p.totals p.norms p.resp

abbrev pub with_sums : List Float → Parts → Parts
with_sums l p = parts p.directions l p.weights p.kappas p.log_coefficients p.totals p.norms p.resp

abbrev pub with_weights : List Float → Parts → Parts
with_weights l p = parts p.directions p.sums l p.kappas p.log_coefficients p.totals p.norms p.resp

abbrev pub with_kappas : List Float → Parts → Parts
with_kappas l p = parts p.directions p.sums p.weights l p.log_coefficients p.totals p.norms p.resp

abbrev pub with_log_coefficients : List Float → Parts → Parts
with_log_coefficients l p = parts p.directions p.sums p.weights p.kappas l p.totals p.norms p.resp

abbrev pub with_totals : List Float → Parts → Parts
with_totals l p = parts p.directions p.sums p.weights p.kappas p.log_coefficients l p.norms p.resp

abbrev pub with_norms : List Float → Parts → Parts
with_norms l p = parts p.directions p.sums p.weights p.kappas p.log_coefficients p.totals l p.resp

abbrev pub with_resp : List Float → Parts → Parts
with_resp l p = parts p.directions p.sums p.weights p.kappas p.log_coefficients p.totals p.norms l

-- the groups, their statistics and the state of the rounds that they hold
abbrev pub model_of : Parts → Model
model_of p = record { weights = p.weights; directions = p.directions; kappas = p.kappas }

abbrev pub statistics_of : Parts → Statistics
statistics_of p = record { totals = p.totals; sums = p.sums }

abbrev pub with_statistics : Statistics → Parts → Parts
with_statistics g p = with_totals g.totals (with_sums g.sums p)

abbrev pub em_of : Parts → Float → Em
em_of p loglik = record { resp = p.resp; model = model_of p; loglik = loglik }

-- what is found, lent to be read
abbrev pub found_model : Found → Model
found_model f = record { weights = f.weights.now; directions = f.directions.now; kappas = f.concentrations.now }

abbrev pub found_em : Found → Float → Em
found_em f loglik = record { resp = f.responsibilities.now; model = found_model f; loglik = loglik }

-- what stands in an area, its directions and its rest
unfoldable pub em_in : (m k : ℕ) (directions rest : List Float) → Float → Em
em_in m k directions rest loglik =
    record {
      resp = responsibilities_in m k rest;
      model = record { weights = weights_in k rest; directions = directions; kappas = kappas_in k rest };
      loglik = loglik;
    }

abbrev pub area_em : Area → Float → Em
area_em a loglik = em_in a.shape.m a.shape.k a.centers.now a.rest.now loglik

-- the log densities of a leaf in n groups, from c on
abbrev pub log_densities_from : (d : ℕ) (coefficients : List Float) → Model → (x : List Float) (c n : ℕ) → List Float
log_densities_from d coefficients p x c n = tabulate (λ e. log_density_at d coefficients p x (c + e)) n

-- ---- a whole run

-- before the first round, with these labels, centres and sums
abbrev pub started_with : Kappa → (weights : List Float) (labels : List ℕ) (m k d : ℕ) (centers sums : List Float) → Em
started_with kappa weights labels m k d centers sums =
    record {
      resp = replicate (m * k) plus_zero;
      model =
          record {
            weights = replicate k (even_weight k);
            directions = centers;
            kappas = start_kappas_by kappa k d sums (label_totals_up_to weights labels k m);
          };
      loglik = inf true;
    }

-- what a warm start leaves: these centres and labels
pub record WarmDone (w : Result) (c : List Float) (l : List ℕ) (r : WarmEnd) : Type 0 where
  pub centers : c ≡ w.centers
  pub labels : l ≡ w.labels
  pub counts : r.counts ≡ w.counts
  pub small : AtMost (of_runs 1) r.counts

-- the run of the definition in an area
abbrev pub once_in : Area → Settings → Once
once_in a s =
    let l = a.leaves in
    let z = a.shape in
    once_of s l.weights.now l.coords.now z.m z.k z.d

pub record RunDone (once : Once) (a : Area) (r : RunEnd) : Type 0 where
  pub em : area_em a r.loglik ≡ once.em
  pub counts : r.counts ≡ once.counts
  pub small : AtMost (of_runs 1) r.counts
