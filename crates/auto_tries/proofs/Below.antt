-- What has room for a fit of hi groups has room for one of fewer: the products go with the number of groups. Assumes nothing.
use mathlib.Core.Path.{◌≡◌}
use mathlib.Core.List.{List}
use mathlib.Core.Bool.{Bool}
use Prim.Native.Nat.{ℕ, ◌*◌, ◌≤◌}
use native.Mathlib.Nat.{mul-le-mul}
use native.Mathlib.Omega.{arith}
use lib.ListN.{length}
use lib.Ieee.{Float}
use Rattle.limits.proofs.Sizes.{sizes_of}
use Rattle.mixture_outputs.specs.Lent.{outputs_of, SameArrays}
use Rattle.mixture_outputs.specs.declared.Arrays.{Arrays}
use Rattle.mixture_outputs.specs.Outputs.{Outputs, lengths_of}
use Rattle.mixture_outputs.proofs.Refusals.{Ready, fits}
use Rattle.auto_tries.specs.Tries.{Fittable}

module _ (weights coords : List Float) (hi k d work work' workU32 workU32' : ℕ) (o o' : Arrays) where
  pub fittable_below : 1 ≤ k → k ≤ hi → work' ≡ work → workU32' ≡ workU32 → SameArrays o o'
      → Fittable weights coords hi d (outputs_of o) work workU32 → Fittable weights coords k d (outputs_of o') work' workU32'
  fittable_below some most ew eu same f =
      let m = length weights in
      let all : m ≤ m = omega arith in
      let whole : d ≤ d = omega arith in
      let rows : m * k ≤ m * hi = mul-le-mul all most in
      let groups : k * d ≤ hi * d = mul-le-mul most whole in
      let z = f.sizes in
      let g = f.outputs_long in
      record {
        sizes = sizes_of m k d z.m_some z.m_small some (omega (arith, z.k_small)) z.d_some z.d_small;
        coords_long = f.coords_long;
        outputs_long =
            record {
              labels_long = omega (arith, g.labels_long, same.labels_long);
              responsibilities_long = omega (arith, g.responsibilities_long, same.responsibilities_long, rows);
              weights_long = omega (arith, g.weights_long, same.weights_long);
              directions_long = omega (arith, g.directions_long, same.directions_long, groups);
              concentrations_long = omega (arith, g.concentrations_long, same.concentrations_long);
              logw_long = omega (arith, g.logw_long, same.logw_long);
            };
        work_long = omega (arith, f.work_long, ew, rows, groups);
        work_u32_long = omega (arith, f.work_u32_long, eu);
      }

-- what is not refused has room
pub fittable : (groups : Bool) (weights coords : List Float) (d k rounds : ℕ) (o : Outputs) (work workU32 : ℕ)
    → Ready groups weights coords d k rounds (lengths_of o work workU32) → Fittable weights coords k d o work workU32
fittable groups weights coords d k rounds o work workU32 r =
    record {
      sizes = r.sizes;
      coords_long = r.coords_long;
      outputs_long = fits o work workU32 (length weights) k d r.long;
      work_long = omega (arith, r.long.work_long);
      work_u32_long = omega (arith, r.long.work_u32_long);
    }
