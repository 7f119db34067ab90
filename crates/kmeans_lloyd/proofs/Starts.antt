-- Laws of the scales, over plain lists: they are written place by place, by blocks and singly. Assumes nothing.
use mathlib.Core.Path.{◌≡◌, refl, ap, sym, ◌∙◌}
use mathlib.Core.List.{List, [], ◌∷◌, ◌++◌}
use Prim.Native.Nat.{ℕ, zero, suc, ◌+◌, ◌≤◌, ◌<◌}
use native.Mathlib.Numerals.{add-one}
use native.Mathlib.Omega.{arith}
use lib.ListN.{length, drop, set, take-append-drop, length-append, length-drop}
use lib.Ieee.{Float, nan}
use Rattle.rows.specs.Rows.{put_part, row_of}
use Rattle.vector.specs.Vectors.{norm_of}
use Rattle.rows.specs.Tabulate.{tabulate}
use Rattle.rows.proofs.Rows.{put_more}
use Rattle.rows.proofs.Tabulate.{tabulate_length}
use Rattle.rows.proofs.Fills.{front_turn}
use Rattle.kmeans_sums.specs.Sums.{norms_up_to}
use Rattle.kmeans_layout.specs.State.{State}
use Rattle.kmeans_lloyd.specs.Runs.{norms_from, put_scale}
use Rattle.kmeans_sums.proofs.Sums.{norms_length}

-- the state with other scales
pub scaled : (s₀ s : State) (x y z : List Float) → s ≡ put_scale x s₀ → y ≡ z → put_scale y s ≡ put_scale z s₀
unfolding put_scale
scaled s₀ s x y z e f = rw (e, f)

module _ (coords : List Float) (d m : ℕ) (l : List Float) (long : length l ≡ m) where
  -- the norms of the first i leaves, then what was there
  abbrev pub normed : ℕ → List Float
  normed i = norms_up_to coords d i ++ drop i l

  normed_length : (i : ℕ) → i ≤ m → length (normed i) ≡ m
  normed_length i h = length-append (norms_up_to coords d i) (drop i l) ∙ omega (arith, norms_length coords d i, length-drop i l)

  pub norms_next : (i : ℕ) (v : Float) → i < m → v ≡ norm_of (row_of coords d i) → set (normed i) i v ≡ normed (i + 1)
  unfolding norms_up_to
  norms_next i v h e =
      let more : norms_up_to coords d i ++ (v ∷ []) ≡ norms_up_to coords d (i + 1) = rw (add-one, e) in
      front_turn nan (norms_up_to coords d i) l i (norms_length coords d i) v (omega arith)
      ∙ ap (λ (x : List Float). x ++ drop (i + 1) l) more

  -- n leaves
  pub norms_block : (i n : ℕ) → i + n ≤ m → put_part (normed i) i n (norms_from coords d i n) ≡ normed (i + n)
  unfolding tabulate
  norms_block i zero h = let e : i + 0 ≡ i = omega arith in rw e (take-append-drop i (normed i))
  norms_block i (suc n) h =
      let vs = norms_from coords d i n in
      let v = norm_of (row_of coords d (i + n)) in
      let e : i + n + 1 ≡ i + suc n = omega arith in
      let lv : length vs ≡ n = tabulate_length (λ (j : ℕ). norm_of (row_of coords d (i + j))) n in
      let ln : length (normed i) ≡ m = normed_length i (omega arith) in
      let more : set (put_part (normed i) i n vs) (i + n) v ≡ put_part (normed i) i (suc n) (vs ++ (v ∷ [])) =
      put_more (normed i) vs i n v nan lv (omega arith) ∙ ap (λ (j : ℕ). put_part (normed i) i j (vs ++ (v ∷ []))) (add-one n) in
      sym more ∙ ap (λ (x : List Float). set x (i + n) v) (norms_block i n (omega arith)) ∙ norms_next (i + n) v (omega arith) refl
      ∙ ap normed e
