-- Laws of the lengths of the resultants and of the directions, over plain lists and the parts of an area. By recursion on the groups done.
-- Assumes nothing.
use mathlib.Core.Path.{◌≡◌, refl, ap, ◌∙◌}
use mathlib.Core.List.{List, [], ◌∷◌, ◌++◌}
use mathlib.Core.Bool.{cond}
use Prim.Native.Nat.{ℕ, zero, suc, ◌+◌, ◌*◌, ◌<◌}
use native.Mathlib.Numerals.{add-one}
use lib.ListN.{get_or}
use lib.Ieee.{Float, nan, lt}
use Rattle.float.specs.Arithmetic.{plus_zero}
use Rattle.rows.specs.Rows.{put_part, row_of}
use Rattle.rows.specs.Tabulate.{tabulate}
use Rattle.rows.proofs.Tabulate.{tabulate_at}
use Rattle.vector.specs.Vectors.{norm_of, divided_by}
use Rattle.kmeans_sums.specs.Sums.{norms_up_to}
use Rattle.mixture_run.specs.Mixture.{directions_up_to}
use Rattle.mixture_run.specs.Areas.{Parts, with_directions}

-- ---- the norms of the rows
module _ (rows : List Float) (d : ℕ) where
  abbrev pub norm_at : ℕ → Float
  norm_at c = norm_of (row_of rows d c)

  pub norms_are : (n : ℕ) → tabulate norm_at n ≡ norms_up_to rows d n
  unfolding tabulate norms_up_to
  norms_are zero = refl
  norms_are (suc n) = ap (λ (l : List Float). l ++ (norm_at n ∷ [])) (norms_are n)

-- ---- the directions
module _ (d : ℕ) (p₀ : Parts) where
  abbrev pub directions_done : ℕ → Parts
  directions_done c = with_directions (directions_up_to d p₀.sums p₀.directions c) p₀

  -- the turn of group c, by its norm
  pub direction_turn : (k : ℕ) (p p' : Parts) (c : ℕ) → p₀.norms ≡ norms_up_to p₀.sums d k → c < k → p ≡ directions_done c
      → (let n = get_or p.norms c nan in p'
      ≡ with_directions (put_part p.directions (c * d) d
      (cond (lt plus_zero n) (divided_by n (row_of p.sums d c)) (row_of p.directions d c))) p)
      → p' ≡ directions_done (c + 1)
  unfolding directions_up_to
  direction_turn k p p' c norms h f e =
      let by : Float → Parts → Parts =
      λ (n : Float) (q : Parts). with_directions (put_part q.directions (c * d) d
      (cond (lt plus_zero n) (divided_by n (row_of q.sums d c)) (row_of q.directions d c))) q in
      let is : get_or p₀.norms c nan ≡ norm_at p₀.sums d c =
      rw (norms, ← norms_are p₀.sums d k) (tabulate_at (norm_at p₀.sums d) k c nan h) in
      rw add-one (e ∙ ap (λ (q : Parts). by (get_or q.norms c nan) q) f ∙ ap (λ (n : Float). by n (directions_done c)) is)
