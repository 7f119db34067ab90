-- What it says that a mixture fit is not refused: the leaves are within the limits, and the arrays are long enough for its runs
-- and outputs. By cases on the Bools of the tests. Assumes nothing.
use mathlib.Core.Path.{◌≡◌}
use mathlib.Core.List.{List}
use mathlib.Core.Bool.{Bool, true}
use Prim.Native.Nat.{ℕ, ◌*◌, ◌≤◌}
use native.Mathlib.Nat.{mul-le-mul}
use native.Mathlib.Omega.{arith}
use lib.Dec.{leb}
use lib.ListN.{length}
use lib.Ieee.{Float}
use borrow.Author.Tests.{leb-true, le-leb}
use Rattle.std.specs.Prelude.{Ok}
use Rattle.limits.specs.Limits.{every, weight_ok, coordinate_ok, sizes_ok, rounds_ok, work_length, work_u32_length}
use Rattle.limits.specs.Limits.{most_groups, most_rounds}
use Rattle.limits.specs.Limits.{LeavesOk}
use Rattle.limits.specs.Sizes.{Sizes}
use Rattle.limits.proofs.Limits.{both, admitted, sizes_met}
use Rattle.limits.proofs.Sizes.{sizes_of}
use Rattle.mixture_kappa.specs.declared.Settings.{Settings}
use Rattle.mixture_outputs.specs.Refusals.{outputs_ok, arrays_ok, fit_refusal}
use Rattle.mixture_outputs.specs.Lent.{Fits}
use Rattle.mixture_outputs.specs.Outputs.{Outputs, lengths_of}
use Rattle.mixture_outputs.specs.declared.Lengths.{Lengths}

-- ---- the arrays are long enough for k groups
pub record LongEnough (m k d : ℕ) (l : Lengths) : Type 0 where
  pub labels_long : m ≤ l.labels
  pub responsibilities_long : m * k ≤ l.responsibilities
  pub weights_long : k ≤ l.weights
  pub directions_long : k * d ≤ l.directions
  pub concentrations_long : k ≤ l.concentrations
  pub logw_long : k ≤ l.logw
  pub work_long : work_length m k d ≤ l.work
  pub work_u32_long : work_u32_length m k ≤ l.work_u32

arrays_met : (m k d : ℕ) (l : Lengths) → arrays_ok m k d l ≡ true → LongEnough m k d l
arrays_met m k d l e =
    let o = both (outputs_ok m k d l) _ e in
    let w = both (leb (work_length m k d) l.work) (leb (work_u32_length m k) l.work_u32) o.1 in
    let a1 = both (leb m l.labels) _ o.0 in
    let a2 = both (leb (m * k) l.responsibilities) _ a1.1 in
    let a3 = both (leb k l.weights) _ a2.1 in
    let a4 = both (leb (k * d) l.directions) _ a3.1 in
    let a5 = both (leb k l.concentrations) (leb k l.logw) a4.1 in
    record {
      labels_long = leb-true _ _ a1.0;
      responsibilities_long = leb-true _ _ a2.0;
      weights_long = leb-true _ _ a3.0;
      directions_long = leb-true _ _ a4.0;
      concentrations_long = leb-true _ _ a5.0;
      logw_long = leb-true _ _ a5.1;
      work_long = leb-true _ _ w.0;
      work_u32_long = leb-true _ _ w.1;
    }

-- the outputs among them
pub fits : (o : Outputs) (work workU32 m k d : ℕ) → LongEnough m k d (lengths_of o work workU32) → Fits o m k d
fits o work workU32 m k d a =
    record {
      labels_long = a.labels_long;
      responsibilities_long = a.responsibilities_long;
      weights_long = a.weights_long;
      directions_long = a.directions_long;
      concentrations_long = a.concentrations_long;
      logw_long = a.logw_long;
    }

-- arrays that are long enough for hi groups are for fewer
arrays_below : (m hi k d : ℕ) (l : Lengths) → k ≤ hi → arrays_ok m hi d l ≡ true → arrays_ok m k d l ≡ true
arrays_below m hi k d l most e =
    let a = arrays_met m hi d l e in
    let same : m ≤ m = omega arith in
    let rows : m * k ≤ m * hi = mul-le-mul same most in
    let whole : d ≤ d = omega arith in
    let groups : k * d ≤ hi * d = mul-le-mul most whole in
    rw (
      le-leb m l.labels a.labels_long,
      le-leb (m * k) l.responsibilities (omega (arith, a.responsibilities_long, rows)),
      le-leb k l.weights (omega (arith, a.weights_long)),
      le-leb (k * d) l.directions (omega (arith, a.directions_long, groups)),
      le-leb k l.concentrations (omega (arith, a.concentrations_long)),
      le-leb k l.logw (omega (arith, a.logw_long)),
      le-leb (work_length m k d) l.work (omega (arith, a.work_long, rows, groups)),
      le-leb (work_u32_length m k) l.work_u32 (omega (arith, a.work_u32_long)),
    )

-- ---- nothing is refused
pub record Ready (groups : Bool) (weights coords : List Float) (d k rounds : ℕ) (l : Lengths) : Type 0 where
  pub admitted : groups ≡ true
  pub sizes : Sizes (length weights) k d
  pub coords_long : length coords ≡ length weights * d
  pub rounds_small : rounds ≤ most_rounds
  pub long : LongEnough (length weights) k d l
  pub leaves : LeavesOk weights coords d

pub ready : (groups : Bool) (weights coords : List Float) (d k : ℕ) (s : Settings) (l : Lengths)
    → (groups ≡ true → (1 ≤ k) × (k ≤ most_groups)) → fit_refusal groups weights coords d k s l ≡ Ok tt
    → Ready groups weights coords d k s.rounds l
unfolding fit_refusal
ready groups weights coords d k s l few none =
    let m = length weights in
    let t = admitted _ groups _ _ _ _ none in
    let z = sizes_met m d (length coords) t.sizes_ok_law in
    let g = few t.groups_ok_law in
    record {
      admitted = t.groups_ok_law;
      sizes = sizes_of m k d z.0 z.1 g.0 g.1 z.2 z.3;
      coords_long = z.4;
      rounds_small = leb-true _ _ t.settings_ok;
      long = arrays_met m k d l t.arrays_ok_law;
      leaves = record { sizes_ok_law = t.sizes_ok_law; weights_ok = t.weights_ok; coords_ok = t.coords_ok };
    }

-- a fit of hi groups that is not refused is not with fewer, if their number is admitted
pub fewer_groups : (groups groups' : Bool) (weights coords : List Float) (d hi k : ℕ) (s : Settings) (l : Lengths) → groups' ≡ true
    → k ≤ hi → fit_refusal groups weights coords d hi s l ≡ Ok tt → fit_refusal groups' weights coords d k s l ≡ Ok tt
unfolding fit_refusal
fewer_groups groups groups' weights coords d hi k s l ok most none =
    let m = length weights in
    let t = admitted (sizes_ok m d (length coords)) groups (rounds_ok s.rounds) (arrays_ok m hi d l) (every weight_ok weights)
    (every coordinate_ok coords) none in
    rw (t.sizes_ok_law, ok, t.settings_ok, arrays_below m hi k d l most t.arrays_ok_law, t.weights_ok, t.coords_ok)
