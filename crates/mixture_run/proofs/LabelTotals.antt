-- The weights of labelled groups grow by one leaf a turn. Assumes nothing.
use mathlib.Core.Path.{◌≡◌, ap, ◌∙◌}
use mathlib.Core.List.{List}
use Prim.Native.Nat.{ℕ, ◌+◌}
use native.Mathlib.Numerals.{add-one}
use lib.ListN.{get_or, set}
use lib.Ieee.{Float, nan, binary64, add}
use Rattle.mixture_run.specs.Fits.{label_totals_up_to}
use Rattle.mixture_run.specs.Areas.{Parts, with_totals}

module _ (weights : List Float) (labels : List ℕ) (k : ℕ) (p₀ : Parts) where
  -- the totals of the first i leaves
  abbrev pub totalled : ℕ → Parts
  totalled i = with_totals (label_totals_up_to weights labels k i) p₀

  pub totals_turn : (p p' : Parts) (i : ℕ) → p ≡ totalled i
      → (let c = get_or labels i 0 in p' ≡ with_totals (set p.totals c (add binary64 (get_or p.totals c nan) (get_or weights i nan))) p)
      → p' ≡ totalled (i + 1)
  unfolding label_totals_up_to
  totals_turn p p' i e f =
      let c = get_or labels i 0 in
      rw add-one (f ∙ ap (λ (q : Parts). with_totals (set q.totals c (add binary64 (get_or q.totals c nan) (get_or weights i nan))) q) e)
