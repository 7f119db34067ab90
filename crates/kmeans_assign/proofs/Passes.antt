-- A leaf's turn in a pass is the definition's step; a pass leaves the centres, and its counts are small. By recursion on the leaves
-- done. Assumes nothing.
use mathlib.Core.Path.{◌≡◌, refl, ap, ◌∙◌}
use mathlib.Core.List.{List}
use mathlib.Core.Bool.{Bool, true, false, not, ◌||◌, cond}
use Prim.Native.Nat.{ℕ, zero, suc, ◌+◌, ◌*◌, ◌≤◌}
use native.Mathlib.Nat.{mul-le-mul_right}
use native.Mathlib.Numerals.{add-one}
use native.Mathlib.Omega.{arith}
use lib.Dec.{eqb, ltb}
use lib.ListN.{get_or}
use lib.Ieee.{Float}
use Rattle.std.specs.Prelude.{Option, None, Some}
use Rattle.counts.specs.Counts.{AtMost, of_round}
use Rattle.kmeans_bounds.specs.Shifts.{skips, slowest_of}
use Rattle.pick.specs.declared.Best.{Best}
use Rattle.kmeans_layout.specs.State.{State}
use Rattle.kmeans_assign.specs.Pass.{Pass, bounds_at, put_bounds, put_label, shift_up_to, shifted_for, best_of}
use Rattle.kmeans_assign.specs.Pass.{put_best, more_made, more_saved, pass_up_to, pass_of}
use Rattle.kmeans_assign.specs.Turns.{LeafPassed, tallied, passed}
use Rattle.kmeans_assign.specs.declared.Passed.{Passed}
use Rattle.limits.specs.declared.Shape.{Shape}
use Rattle.kmeans_assign.proofs.Cases.{either}
use Rattle.kmeans_assign.proofs.Tallies.{counts_of_pass}

-- ---- a leaf's turn in a pass
turn_by : (b c : Bool) (x y x' : State) (p : Passed) (t : Option Bool) (k : ℕ) → t ≡ cond b None (Some c) → x' ≡ cond b x y
    → passed x' (tallied p t k)
    ≡ cond b (record { state = x; changed = p.changed; counts = more_saved k p.counts })
    (record { state = y; changed = p.changed || c; counts = more_made k p.counts })
turn_by true c x y x' p t k e f = rw (f, e)
turn_by false c x y x' p t k e f = rw (f, e)

module _ (coords : List Float) (k d it : ℕ) (s : State) where
  pub pass_turn : (n : ℕ) (x x' : State) (p p' : Passed) (t : Option Bool) → passed x p ≡ pass_up_to coords k d it s n
      → LeafPassed coords k d it n x x' t → p' ≡ tallied p t k → passed x' p' ≡ pass_up_to coords k d it s (n + 1)
  unfolding pass_up_to
  pass_turn n x x' p p' t e l f =
      let best = best_of coords k d x n in
      let g = turn_by (skips it (bounds_at x n)) (not (eqb (get_or x.labels n 0) best.index)) x (put_best k n best x) x' p t k
      l.answer l.state in
      ap (passed x') f ∙ g ∙ rw (add-one, ← e)

-- ---- a pass over the leaves, of the state s
module _ (coords : List Float) (shape : Shape) (s : State) (it n : ℕ) (x : State) (p : Passed)
    (e : passed x p ≡ pass_up_to coords shape.k shape.d it s n) where
  pub pass_small : n ≤ shape.m → AtMost of_round p.counts
  pass_small h =
      let k = shape.k in
      let sum : p.counts.made + p.counts.saved ≡ k * n =
      ap (λ (q : Pass). q.counts.made + q.counts.saved) e ∙ counts_of_pass coords k shape.d it s n in
      let most : k * n ≤ 64 * n = mul-le-mul_right n shape.sizes.k_small in
      let few = shape.sizes.m_small in
      record { made = omega (arith, sum, most, few, h); saved = omega (arith, sum, most, few, h) }

-- ---- neither the shift nor the pass moves a centre
shift_centers : (k : ℕ) (t : Best) (s : State) (n : ℕ) → (shift_up_to k t s n).centers ≡ s.centers
unfolding shift_up_to put_bounds
shift_centers k t s zero = refl
shift_centers k t s (suc n) = shift_centers k t s n

shifted_centers : (m k it : ℕ) (s : State) → (shifted_for m k it s).centers ≡ s.centers
shifted_centers m k it s =
    either (λ (x : State). x.centers ≡ s.centers) (ltb 0 it) _ s (shift_centers k (slowest_of s.drift) s m) refl

centers_to : (coords : List Float) (k d it : ℕ) (s : State) (n : ℕ) → (pass_up_to coords k d it s n).state.centers ≡ s.centers
unfolding pass_up_to put_bounds put_label
centers_to coords k d it s zero = refl
centers_to coords k d it s (suc n) =
    let e = centers_to coords k d it s n in
    either (λ (p : Pass). p.state.centers ≡ s.centers) (skips it (bounds_at (pass_up_to coords k d it s n).state n)) _ _ e e

pub pass_centers : (coords : List Float) (m k d it : ℕ) (s : State) → (pass_of coords m k d it s).state.centers ≡ s.centers
pass_centers coords m k d it s = centers_to coords k d it (shifted_for m k it s) m ∙ shifted_centers m k it s
