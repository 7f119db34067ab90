-- The automatic fit in arrays of zeros is the fit of the definition. By putting the arrays in their places. Assumes nothing.
use mathlib.Core.Path.{◌≡◌, ap, subst}
use mathlib.Core.List.{List}
use Prim.Native.Nat.{ℕ, ◌*◌}
use lib.ListN.{replicate}
use lib.Ieee.{Float}
use Rattle.float.specs.Arithmetic.{plus_zero}
use Rattle.mixture_outputs.specs.Outputs.{arrays}
use Rattle.auto.specs.Outcome.{Outcome, outcome}
use Rattle.auto.specs.Best.{AnswerKeepsBest}
use Rattle.std.specs.Prelude.{Ok}
use Rattle.leaf_file.specs.LeafFile.{Leaves, settings, room}
use Rattle.leaf_file.specs.LeafFile.{work_room, work_u32_room, leaves_fit, LeavesKeepBest, FileFit, file_fit_by}

module _ (weights coords : List Float) (d : ℕ) (labels : List ℕ) where
  abbrev leaves : Leaves
  leaves = record { d = d; weights = weights; coords = coords }

  -- an outcome in arrays that are all zeros, with demand 3 of it
  pub fit_by : (resp groups dirs kappas logw : List Float) (work workU32 : ℕ) → resp ≡ replicate (64 * 4) plus_zero
      → groups ≡ replicate 4 plus_zero → dirs ≡ replicate (4 * 16) plus_zero → kappas ≡ replicate 4 plus_zero
      → logw ≡ replicate 4 plus_zero → work ≡ work_room → workU32 ≡ work_u32_room
      → let o = arrays labels resp groups dirs kappas logw in
      (e : Outcome) → e ≡ outcome o weights coords d settings 1 4 work workU32
      → AnswerKeepsBest o weights coords d settings 1 4 work workU32 e.answer e.outputs
      → (◌≡◌ {A = FileFit} (record { answer = e.answer; labels = e.outputs.labels }) (file_fit_by (Ok tt) leaves labels))
      × (LeavesKeepBest leaves labels e.answer)
  unfolding leaves_fit
  fit_by resp groups dirs kappas logw work workU32 a b c f g h i e p best =
      let q : e ≡ outcome (room labels) weights coords d settings 1 4 work_room work_u32_room = rw (a, b, c, f, g, h, i) at p in
      let best' : AnswerKeepsBest (room labels) weights coords d settings 1 4 work_room work_u32_room e.answer e.outputs =
      rw (a, b, c, f, g, h, i) at best in (
        ap (λ (o : Outcome). record { answer = o.answer; labels = o.outputs.labels }) q,
        subst (λ (o : Outcome). AnswerKeepsBest (room labels) weights coords d settings 1 4 work_room work_u32_room e.answer
            o.outputs) q best',
      )
