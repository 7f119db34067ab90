-- The lone fit of a number of the range is what the entry `movmf_with` gives for it: what the automatic fit is not refused for,
-- `movmf_with` at a number of its range is not. Assumes nothing.
use mathlib.Core.Path.{◌≡◌, refl}
use mathlib.Core.List.{List}
use mathlib.Core.Bool.{true}
use Prim.Native.Nat.{ℕ, ◌≤◌}
use native.Mathlib.Omega.{arith}
use lib.Dec.{leb}
use lib.ListN.{length}
use lib.Ieee.{Float}
use borrow.Author.Tests.{le-leb, leb-true}
use Rattle.std.specs.Prelude.{Ok}
use Rattle.limits.specs.Limits.{groups_ok, most_groups}
use Rattle.mixture_kappa.specs.declared.Settings.{Settings}
use Rattle.mixture_outputs.specs.Outputs.{lengths_of}
use Rattle.mixture_outputs.specs.declared.Lengths.{Lengths}
use Rattle.mixture_outputs.proofs.Refusals.{fewer_groups}
use Rattle.movmf.specs.Refusals as movmf
use Rattle.auto_choice.specs.Choice.{highest}
use Rattle.auto.specs.Refusals.{refusal_of}
use Rattle.auto.specs.Lone.{LoneIsTheEntry}
use Rattle.auto.proofs.Outcomes.{highest_some, admitted}

-- a number from 1 to the leaves and to 64 is admitted
few_ok : (k m : ℕ) → 1 ≤ k → k ≤ most_groups → k ≤ m → groups_ok k m ≡ true
few_ok k m some few below = rw (le-leb 1 k some, le-leb k most_groups few, le-leb k m below)

-- a number of the range is at most the leaves
in_leaves : (kMax m k : ℕ) → 1 ≤ m → k ≤ highest kMax m → k ≤ m
in_leaves kMax m k h l = omega arith

not_refused : (weights coords : List Float) (d kMax k : ℕ) (s : Settings) (l : Lengths) → 1 ≤ k → k ≤ highest kMax (length weights)
    → refusal_of weights coords d (highest kMax (length weights)) s l ≡ Ok tt → movmf.refusal_of weights coords d k s l ≡ Ok tt
not_refused weights coords d kMax k s l some most e =
    let m = length weights in
    let hi = highest kMax m in
    let r = admitted weights coords d hi s l (highest_some kMax m hi refl) e in
    let below = in_leaves kMax m k r.sizes.m_some most in
    let few : k ≤ most_groups = omega (arith, most, leb-true hi most_groups r.admitted) in
    fewer_groups (leb hi most_groups) (groups_ok k m) weights coords d hi k s l (few_ok k m some few below) most e

pub lone_is_the_entry : LoneIsTheEntry
lone_is_the_entry o weights coords d s kMin kMax work workU32 k e least most =
    rw (not_refused weights coords d kMax k s (lengths_of o work workU32) (omega arith) most e)
