-- Document 01, 'Leaves, settings, fit' and 'Mixture': the output arrays of a mixture fit, and what they hold after it.
-- Definitions only.
use Rattle.std.specs.Prelude.{List, ◌++◌, ℕ, ◌*◌, length, drop, Float}
use Rattle.mixture_run.specs.Mixture.{Em}
use Rattle.mixture_run.specs.Fits.{labels_of, logw_of}
use Rattle.mixture_outputs.specs.declared.Lengths.{Lengths}

-- the six output arrays
pub record Outputs : Type 0 where
  pub labels : List ℕ
  pub responsibilities : List Float
  pub weights : List Float
  pub directions : List Float
  pub concentrations : List Float
  pub logw : List Float

abbrev pub arrays : List ℕ → List Float → List Float → List Float → List Float → List Float → Outputs
arrays labels responsibilities weights directions concentrations logw =
    record {
      labels = labels;
      responsibilities = responsibilities;
      weights = weights;
      directions = directions;
      concentrations = concentrations;
      logw = logw;
    }

-- what is found written into them; entries past its lengths keep their old contents
unfoldable pub written : ℕ → ℕ → ℕ → Em → Outputs → Outputs
written m k d em o =
    record {
      labels = labels_of em.resp m k ++ drop m o.labels;
      responsibilities = em.resp ++ drop (m * k) o.responsibilities;
      weights = em.model.weights ++ drop k o.weights;
      directions = em.model.directions ++ drop (k * d) o.directions;
      concentrations = em.model.kappas ++ drop k o.concentrations;
      logw = logw_of k d em.model ++ drop k o.logw;
    }

abbrev pub lengths_of : Outputs → ℕ → ℕ → Lengths
lengths_of o work workU32 =
    record {
      labels = length o.labels;
      responsibilities = length o.responsibilities;
      weights = length o.weights;
      directions = length o.directions;
      concentrations = length o.concentrations;
      logw = length o.logw;
      work = work;
      work_u32 = workU32;
    }
