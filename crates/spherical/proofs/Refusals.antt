-- What it says that nothing is refused. By cases on the Bools of the tests. Assumes nothing.
use mathlib.Core.Path.{◌≡◌}
use mathlib.Core.List.{List}
use Prim.Native.Nat.{ℕ, ◌*◌, ◌≤◌}
use lib.Dec.{leb}
use lib.ListN.{length}
use lib.Ieee.{Float}
use borrow.Author.Tests.{leb-true}
use Rattle.std.specs.Prelude.{Ok}
use Rattle.limits.specs.Limits.{work_length, work_u32_length, rounds_ok, most_rounds, most_restarts, LeavesOk}
use Rattle.limits.specs.Sizes.{Sizes}
use Rattle.limits.proofs.Limits.{both, admitted, sizes_met, groups_met}
use Rattle.limits.proofs.Sizes.{sizes_of}
use Rattle.spherical.specs.Refusals.{restarts_ok, refusal_of}

-- what it says that nothing is refused
pub record Ready (weights coords : List Float) (d k rounds restarts labels directions work workU32 : ℕ) : Type 0 where
  pub sizes : Sizes (length weights) k d
  pub coords_long : length coords ≡ length weights * d
  pub k_below : k ≤ length weights
  pub rounds_small : rounds ≤ most_rounds
  pub restarts_small : restarts ≤ most_restarts
  pub labels_long : length weights ≤ labels
  pub directions_long : k * d ≤ directions
  pub work_long : work_length (length weights) k d ≤ work
  pub work_u32_long : work_u32_length (length weights) k ≤ workU32
  pub leaves : LeavesOk weights coords d

module _ (weights coords : List Float) (d k rounds restarts labels directions work workU32 : ℕ) where
  pub ready : refusal_of weights coords d k rounds restarts labels directions work workU32 ≡ Ok tt
      → Ready weights coords d k rounds restarts labels directions work workU32
  unfolding refusal_of
  ready e =
      let m = length weights in
      let t = admitted _ _ _ _ _ _ e in
      let s = sizes_met m d (length coords) t.sizes_ok_law in
      let g = groups_met k m t.groups_ok_law in
      let r = both (rounds_ok rounds) (restarts_ok restarts) t.settings_ok in
      let a1 = both (leb m labels) _ t.arrays_ok_law in
      let a2 = both (leb (k * d) directions) _ a1.1 in
      let a3 = both (leb (work_length m k d) work) (leb (work_u32_length m k) workU32) a2.1 in
      record {
        sizes = sizes_of m k d s.0 s.1 g.0 g.1 s.2 s.3;
        coords_long = s.4;
        k_below = g.2;
        rounds_small = leb-true _ _ r.0;
        restarts_small = leb-true _ _ r.1;
        labels_long = leb-true _ _ a1.0;
        directions_long = leb-true _ _ a2.0;
        work_long = leb-true _ _ a3.0;
        work_u32_long = leb-true _ _ a3.1;
        leaves = record { sizes_ok_law = t.sizes_ok_law; weights_ok = t.weights_ok; coords_ok = t.coords_ok };
      }
