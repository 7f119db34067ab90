-- No reseed of a run picks a leaf already picked in the same update. The invariant over the rounds: the centres' coordinates are within ±2,
-- and none is doubled so far; a pass leaves both, and an update of such centres keeps both (`update_clean`). By recursion on the rounds.
-- Assumes nothing.
use mathlib.Core.Path.{◌≡◌, refl, sym, subst}
use mathlib.Core.List.{List}
use Prim.Native.Nat.{ℕ, zero, suc, ◌+◌, ◌≤◌, ◌<◌}
use native.Mathlib.Omega.{arith}
use lib.ListN.{length}
use lib.Ieee.{Float}
use Rattle.kmeans_layout.specs.State.{State}
use Rattle.kmeans_assign.specs.Pass.{pass_of}
use Rattle.kmeans_update.specs.Update.{update_of, update_to}
use Rattle.kmeans_seeding.specs.Seeding.{seeds_of}
use Rattle.float.proofs.Bound.{Within}
use Rattle.float.proofs.Ranges.{All}
use Rattle.limits.proofs.Limits.{sizes_met}
use Rattle.limits.proofs.Bounds.{weights_within, coordinates_within, within_coordinates}
use Rattle.kmeans_assign.proofs.Cases.{either}
use Rattle.kmeans_assign.proofs.Passes.{pass_centers}
use Rattle.kmeans_seeding.proofs.Within.{seeds_within}
use Rattle.kmeans_update.proofs.Reseeds.{Clean, update_clean}
use Rattle.kmeans_lloyd.specs.Lloyd.{Run, started_from, fresh_run, rounds_from, ends_at, after_pass, after_update}
use Rattle.kmeans_lloyd.specs.Doubled.{run_of, picked_before, NoneDoubled, NeverDoubled}

module _ (weights coords : List Float) (m k d : ℕ) (hw : All (Within 1099511627776 1) weights) (hc : All (Within 2 1) coords)
    (lw : length weights ≡ m) (lm : m ≤ 4096) (lk : k ≤ m) (hd : d ≤ 256) where
  record Kept (r : Run) : Type 0 where
    pub centers : All (Within 2 1) r.state.centers
    pub none : r.doubled ≡ 0

  -- the update of round `it`, after c groups
  round_clean : (it : ℕ) (s : State) → All (Within 2 1) s.centers → (c : ℕ) → c ≤ k
      → Clean c (update_to weights coords m k d (pass_of coords m k d it s).state c)
  round_clean it s h =
      update_clean m d coords hc hd weights k (pass_of coords m k d it s).state hw lw lm lk
      (subst (All (Within 2 1)) (sym (pass_centers coords m k d it s)) h)

  rounds_kept : (n it : ℕ) (r : Run) → Kept r → Kept (rounds_from weights coords m k d n it r)
  unfolding rounds_from
  rounds_kept zero it r h = h
  rounds_kept (suc n) it r h =
      let p = pass_of coords m k d it r.state in
      let u = update_of weights coords m k d p.state in
      let q = round_clean it r.state h.centers k (omega arith) in
      let next = after_update (after_pass r p) u in
      either Kept (ends_at it p) (after_pass r p) (rounds_from weights coords m k d n (it + 1) next)
      (record { centers = subst (All (Within 2 1)) (sym (pass_centers coords m k d it r.state)) h.centers; none = h.none })
      (rounds_kept n (it + 1) next (record { centers = q.centers; none = omega (arith, h.none, q.none) }))

  run_kept : (rounds generator : ℕ) → Kept (run_of weights coords m k d rounds generator)
  unfolding started_from
  run_kept rounds generator =
      rounds_kept rounds 0 (fresh_run (started_from coords m k d (seeds_of weights coords m k d generator).centers))
      (record { centers = seeds_within weights coords m d hd hc generator k; none = refl })

  picked_few : (generator it c : ℕ) → c < k → length (picked_before weights coords m k d generator it c) ≤ c
  picked_few generator it c h =
      (round_clean it (run_of weights coords m k d it generator).state (run_kept it generator).centers c (omega arith)).few

  none_doubled : (rounds generator : ℕ) → NoneDoubled weights coords m k d rounds generator
  none_doubled rounds generator =
      record {
        centers = within_coordinates (run_of weights coords m k d rounds generator).state.centers (run_kept rounds generator).centers;
        most = picked_few generator;
        fewer = λ it c h. omega (arith, picked_few generator it c h);
        none = (run_kept rounds generator).none;
      }

pub never_doubled : NeverDoubled
never_doubled weights coords d k rounds generator ok some below =
    let s = sizes_met (length weights) d (length coords) ok.sizes_ok_law in
    none_doubled weights coords (length weights) k d (weights_within weights ok.weights_ok) (coordinates_within coords ok.coords_ok)
    refl s.1 below s.3 rounds generator
