-- The labels that a fit writes are the first of the greatest responsibilities that it writes: a label is the place of the greatest of a
-- leaf's row, and the row stands in front of what was found. Assumes nothing.
use mathlib.Core.Path.{◌≡◌, sym, subst, ◌∙◌}
use mathlib.Core.List.{List, ◌++◌}
use Prim.Native.Nat.{ℕ, ◌+◌, ◌*◌, ◌<◌}
use native.Mathlib.Omega.{arith}
use lib.ListN.{length, get_or, drop, get_or-append}
use lib.Ieee.{Float, nan}
use Rattle.rows.specs.Rows.{row_of}
use Rattle.rows.specs.Tabulate.{tabulate}
use Rattle.rows.proofs.Rows.{row_within, length_part, row_get}
use Rattle.rows.proofs.Tabulate.{tabulate_length, tabulate_at}
use Rattle.pick.specs.Places.{argmax_of}
use Rattle.pick.specs.First.{FirstOfGreatest}
use Rattle.pick.proofs.First.{argmax_first, first_same}
use Rattle.mixture_run.specs.Mixture.{Em}
use Rattle.mixture_run.specs.Fits.{labels_of}
use Rattle.mixture_outputs.specs.Outputs.{Outputs, written}
use Rattle.mixture_outputs.specs.Labels.{LabelsFirst}

module _ (resp : List Float) (m k : ℕ) (some : 0 < k) (long : length resp ≡ m * k) (i : ℕ) (h : i < m) where
  -- of the row of leaf i
  row_first : FirstOfGreatest (λ (g : ℕ). get_or (row_of resp k i) g nan) k (argmax_of (row_of resp k i))
  row_first =
      let e : length (row_of resp k i) ≡ k = length_part resp (i * k) k (omega (arith, long, row_within i m k h)) in
      subst (λ (n : ℕ). FirstOfGreatest (λ (g : ℕ). get_or (row_of resp k i) g nan) n (argmax_of (row_of resp k i))) e
      (argmax_first (row_of resp k i) (omega (arith, e)))

  -- where it stands in front of what was found
  front_first : (found : List Float) (old : List ℕ)
      → FirstOfGreatest (λ (g : ℕ). get_or (resp ++ found) (i * k + g) nan) k (get_or (labels_of resp m k ++ old) i 0)
  front_first found old =
      let f : ℕ → ℕ = λ (j : ℕ). argmax_of (row_of resp k j) in
      let label : get_or (labels_of resp m k ++ old) i 0 ≡ f i =
      get_or-append (tabulate f m) old 0 i (omega (arith, tabulate_length f m)) ∙ tabulate_at f m i 0 h in
      rw label
      (first_same _ _ k (f i)
      (λ g l. row_get resp k i g nan l
      ∙ sym (get_or-append resp found nan (i * k + g) (omega (arith, l, long, row_within i m k h)))) row_first)

pub written_first : (m k d : ℕ) (em : Em) (o : Outputs) → 0 < k → length em.resp ≡ m * k → LabelsFirst m 0 k (written m k d em o)
unfolding written
written_first m k d em o some long _ i h =
    front_first em.resp m k some long i h (drop (m * k) o.responsibilities) (drop m o.labels)
