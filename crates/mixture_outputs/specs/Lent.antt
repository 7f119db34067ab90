-- The output arrays as they are lent: what the functions that fill them ask and promise. No definition of document 01
-- stands on this file.
use Rattle.std.specs.Prelude.{◌≡◌, ℕ, ◌*◌, ◌≤◌, length}
use Rattle.mixture_outputs.specs.Outputs.{Outputs}
use Rattle.mixture_outputs.specs.declared.Arrays.{Arrays}

-- what the arrays hold
abbrev pub outputs_of : Arrays → Outputs
outputs_of o =
    record {
      labels = o.labels.now;
      responsibilities = o.responsibilities.now;
      weights = o.weights.now;
      directions = o.directions.now;
      concentrations = o.concentrations.now;
      logw = o.logw.now;
    }

-- the same arrays, and so as long as before, whatever they hold
pub record SameArrays (o o' : Arrays) : Type 0 where
  pub labels : o'.labels.ghost_name ≡ o.labels.ghost_name
  pub responsibilities : o'.responsibilities.ghost_name ≡ o.responsibilities.ghost_name
  pub weights : o'.weights.ghost_name ≡ o.weights.ghost_name
  pub directions : o'.directions.ghost_name ≡ o.directions.ghost_name
  pub concentrations : o'.concentrations.ghost_name ≡ o.concentrations.ghost_name
  pub logw : o'.logw.ghost_name ≡ o.logw.ghost_name
  pub labels_long : length o'.labels.now ≡ length o.labels.now
  pub responsibilities_long : length o'.responsibilities.now ≡ length o.responsibilities.now
  pub weights_long : length o'.weights.now ≡ length o.weights.now
  pub directions_long : length o'.directions.now ≡ length o.directions.now
  pub concentrations_long : length o'.concentrations.now ≡ length o.concentrations.now
  pub logw_long : length o'.logw.now ≡ length o.logw.now

-- long enough for a fit of k groups
pub record Fits (o : Outputs) (m k d : ℕ) : Type 0 where
  pub labels_long : m ≤ length o.labels
  pub responsibilities_long : m * k ≤ length o.responsibilities
  pub weights_long : k ≤ length o.weights
  pub directions_long : k * d ≤ length o.directions
  pub concentrations_long : k ≤ length o.concentrations
  pub logw_long : k ≤ length o.logw
