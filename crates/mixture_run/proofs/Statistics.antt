-- Laws of the sufficient statistics of the groups, over the parts of an area: each definition grows by one group or one leaf a turn.
-- Assumes nothing.
use mathlib.Core.Path.{◌≡◌, ap, ◌∙◌}
use mathlib.Core.List.{List}
use Prim.Native.Nat.{ℕ, ◌+◌}
use native.Mathlib.Numerals.{add-one}
use lib.ListN.{get_or}
use lib.Ieee.{Float, nan, binary64, mul}
use Rattle.rows.specs.Rows.{row_of}
use Rattle.mixture_run.specs.Mixture.{accumulate_group, accumulate_leaf, statistics_up_to}
use Rattle.mixture_run.specs.Areas.{Parts, statistics_of, with_statistics}

-- ---- every group gains leaf i
module _ (k d i : ℕ) (weight : Float) (x : List Float) (p₀ : Parts) where
  abbrev pub leaf_done : ℕ → Parts
  leaf_done c = with_statistics (accumulate_leaf d weight (row_of p₀.resp k i) x (statistics_of p₀) c) p₀

  pub leaf_turn : (p p' : Parts) (c : ℕ) → p ≡ leaf_done c
      → p' ≡ with_statistics (accumulate_group d (mul binary64 weight (get_or (row_of p.resp k i) c nan)) x c (statistics_of p)) p
      → p' ≡ leaf_done (c + 1)
  unfolding accumulate_leaf
  leaf_turn p p' c e f =
      rw add-one (f ∙ ap (λ (q : Parts). with_statistics
      (accumulate_group d (mul binary64 weight (get_or (row_of q.resp k i) c nan)) x c (statistics_of q)) q) e)

-- ---- the groups gain every leaf
module _ (weights coords : List Float) (k d : ℕ) (p₀ : Parts) where
  abbrev pub leaves_done : ℕ → Parts
  leaves_done i = with_statistics (statistics_up_to weights coords p₀.resp k d i) p₀

  pub leaves_turn : (p p' : Parts) (i : ℕ) → p ≡ leaves_done i
      → p' ≡ with_statistics (accumulate_leaf d (get_or weights i nan) (row_of p.resp k i) (row_of coords d i) (statistics_of p) k) p
      → p' ≡ leaves_done (i + 1)
  unfolding statistics_up_to
  leaves_turn p p' i e f =
      rw add-one (f ∙ ap (λ (q : Parts). with_statistics
      (accumulate_leaf d (get_or weights i nan) (row_of q.resp k i) (row_of coords d i) (statistics_of q) k) q) e)
