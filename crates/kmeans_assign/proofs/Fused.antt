-- The shift of a leaf's bounds may wait for the leaf's turn in the pass, and be left out where the leaf is given new bounds from
-- its dots: a turn touches and reads what belongs to its own leaf, so that it commutes with the shift of a later one. By
-- recursion on the leaves done. Assumes nothing.
use mathlib.Core.Path.{◌≡◌, refl, ap, sym, ◌∙◌}
use mathlib.Core.List.{List}
use mathlib.Core.Bool.{Bool, true, false, not, ◌||◌, cond}
use Prim.Native.Nat.{ℕ, zero, suc, ◌+◌, ◌≤◌, ◌<◌}
use native.Mathlib.Numerals.{add-one}
use native.Mathlib.Omega.{arith}
use lib.Dec.{eqb, ltb}
use lib.ListN.{length, get_or}
use lib.Seq.{get_or-set_same, get_or-set_other, set-set, set_comm}
use lib.Ieee.{Float, nan, lt}
use Rattle.std.specs.Prelude.{Option, None, Some}
use Rattle.float.specs.Arithmetic.{plus_zero}
use Rattle.kmeans_bounds.specs.Shifts.{shifted_bounds, shifted_by, skips, slowest_of, other_than}
use Rattle.pick.specs.declared.Best.{Best}
use Rattle.kmeans_bounds.specs.declared.Bounds.{Bounds}
use Rattle.kmeans_layout.specs.State.{State}
use Rattle.kmeans_assign.specs.Pass.{Pass, bounds_at, put_bounds, put_label, shift_leaf, shift_up_to, bounds_by, best_of, put_best}
use Rattle.kmeans_assign.specs.Pass.{more_made, pass_leaf, pass_up_to, shifted_for}
use Rattle.kmeans_assign.specs.Turns.{turns_of, Spent, LeafPlaced, LeafPassed, tallied, passed, drifts_of, shift_one, shift_by}
use Rattle.kmeans_assign.specs.declared.Passed.{Passed}
use Rattle.kmeans_assign.proofs.Passes.{pass_turn}

-- ---- two leaves
module _ (i j : ℕ) (h : i < j) (s : State) where
  bounds_apart : (y : Bounds) → bounds_at (put_bounds j y s) i ≡ bounds_at s i
  unfolding put_bounds
  bounds_apart y =
      rw (
        get_or-set_other s.low j i y.low nan (λ (e : i ≡ j). omega (arith, e, h)),
        get_or-set_other s.high j i y.high nan (λ (e : i ≡ j). omega (arith, e, h)),
      )

  puts_apart : (x y : Bounds) (v : Float) (c : ℕ)
      → put_bounds i x (put_label i v c (put_bounds j y s)) ≡ put_bounds j y (put_bounds i x (put_label i v c s))
  unfolding put_bounds put_label
  puts_apart x y v c =
      rw (
        set_comm s.low j i y.low x.low (λ (e : j ≡ i). omega (arith, e, h)),
        set_comm s.high j i y.high x.high (λ (e : j ≡ i). omega (arith, e, h)),
      )

-- what leaf j's bounds are shifted to
abbrev shift_of : ℕ → Best → ℕ → State → Bounds
shift_of k t j s = shifted_bounds (ltb 1 k) (get_or s.drift (get_or s.labels j 0) nan) (other_than t (get_or s.labels j 0)) (bounds_at s j)

module _ (i j : ℕ) (h : i < j) (s : State) (k : ℕ) (t : Best) where
  shift_apart : (x : Bounds) (v : Float) (c : ℕ) → shift_of k t j (put_bounds i x (put_label i v c s)) ≡ shift_of k t j s
  unfolding put_bounds put_label
  shift_apart x v c =
      rw (
        get_or-set_other s.low i j x.low nan (λ (e : j ≡ i). omega (arith, e, h)),
        get_or-set_other s.high i j x.high nan (λ (e : j ≡ i). omega (arith, e, h)),
        get_or-set_other s.labels i j c 0 (λ (e : j ≡ i). omega (arith, e, h)),
      )

  best_apart : (b : Best) → put_best k i b (shift_leaf k t j s) ≡ shift_leaf k t j (put_best k i b s)
  best_apart b =
      let y = shift_of k t j s in
      let x = bounds_by k b (bounds_at s i) in
      let after = put_bounds i x (put_label i b.value b.index s) in
      ap (λ (o : Bounds). put_bounds i (bounds_by k b o) (put_label i b.value b.index (put_bounds j y s))) (bounds_apart i j h s y)
      ∙ puts_apart i j h s x y b.value b.index ∙ ap (λ (z : Bounds). put_bounds j z after) (sym (shift_apart x b.value b.index))

-- ---- the pass

-- with another state
abbrev on_state : (State → State) → Pass → Pass
on_state f p = record { state = f p.state; changed = p.changed; counts = p.counts }

either_late : (f : Pass → Pass) (b b' : Bool) (x y x' y' : Pass) → b' ≡ b → x' ≡ f x → y' ≡ f y → cond b' x' y' ≡ f (cond b x y)
either_late f true b' x y x' y' e g h = rw e g
either_late f false b' x y x' y' e g h = rw e h

module _ (coords : List Float) (k d it : ℕ) (t : Best) (j : ℕ) where
  leaf_late : (i : ℕ) → i < j → (p : Pass)
      → pass_leaf coords k d it i (on_state (shift_leaf k t j) p) ≡ on_state (shift_leaf k t j) (pass_leaf coords k d it i p)
  unfolding put_bounds
  leaf_late i h p =
      let s = p.state in
      let b = best_of coords k d s i in
      let anew : State → Pass =
      λ (z : State). record {
        state = z;
        changed = p.changed || not (eqb (get_or s.labels i 0) b.index);
        counts = more_made k p.counts;
      } in
      either_late (on_state (shift_leaf k t j)) (skips it (bounds_at s i)) (skips it (bounds_at (shift_leaf k t j s) i)) _ _ _ _
      (ap (skips it) (bounds_apart i j h s (shift_of k t j s))) refl (ap anew (best_apart i j h s k t b))

  -- the shift of leaf j after the turns of leaves before it
  shift_late : (s : State) (n : ℕ) → n ≤ j
      → pass_up_to coords k d it (shift_leaf k t j s) n ≡ on_state (shift_leaf k t j) (pass_up_to coords k d it s n)
  unfolding pass_up_to
  shift_late s zero h = refl
  shift_late s (suc n) h = ap (pass_leaf coords k d it n) (shift_late s n (omega arith)) ∙ leaf_late n h (pass_up_to coords k d it s n)

module _ (coords : List Float) (k d it : ℕ) (s : State) (n : ℕ) where
  -- leaf n's turn, with the shift of its bounds where there are drifts
  pub leaf_done : (t : Option Best) (x x' : State) (p p' : Passed) (r : Option Bool)
      → passed x p ≡ pass_up_to coords k d it (shift_by k t s n) n → LeafPassed coords k d it n (shift_one k t n x) x' r
      → p' ≡ tallied p r k → passed x' p' ≡ pass_up_to coords k d it (shift_by k t s (n + 1)) (n + 1)
  unfolding shift_up_to
  leaf_done None x x' p p' r e l f = pass_turn coords k d it s n x x' p p' r e l f
  leaf_done (Some t) x x' p p' r e l f =
      let g : passed (shift_leaf k t n x) p ≡ pass_up_to coords k d it (shift_leaf k t n (shift_up_to k t s n)) n =
      ap (on_state (shift_leaf k t n)) e ∙ sym (shift_late coords k d it t n (shift_up_to k t s n) n (omega arith)) in
      pass_turn coords k d it (shift_up_to k t s (n + 1)) n (shift_leaf k t n x) x' p p' r (rw add-one g) l f

-- no leaf shifted, and all m by the drifts of round `it`
pub none_shifted : (k : ℕ) (t : Option Best) (s : State) → shift_by k t s 0 ≡ s
unfolding shift_up_to
none_shifted k None s = refl
none_shifted k (Some t) s = refl

pub all_shifted : (m k it : ℕ) (s : State) → shift_by k (drifts_of it s.drift) s m ≡ shifted_for m k it s
all_shifted m k it s =
    let t = slowest_of s.drift in
    elim (ltb 0 it) as (λ (b : Bool). shift_by k (cond b (Some t) None) s m ≡ cond b (shift_up_to k t s m) s) [ true ↦ refl | false ↦ refl ]

-- ---- a leaf given new bounds from its dots
module _ (k i : ℕ) (x : Bounds) (s : State) where
  best_anew : (b : Best) → lt plus_zero (get_or s.scale i nan) ≡ true → put_best k i b (put_bounds i x s) ≡ put_best k i b s
  unfolding put_bounds put_label
  best_anew b e = rw e (simp set-set)

  bounds_same : x.scale ≡ get_or s.scale i nan → i < length s.low → i < length s.high → bounds_at (put_bounds i x s) i ≡ x
  unfolding put_bounds
  bounds_same e f g = rw (get_or-set_same s.low i x.low nan f, get_or-set_same s.high i x.high nan g, ← e)

-- by turns, as the definition has it
pub shifted_leaf : (k i : ℕ) (t : Best) (s : State) → shifted_by (turns_of k t i s) (bounds_at s i) ≡ shift_of k t i s
shifted_leaf k i t s =
    let own = get_or s.drift (get_or s.labels i 0) nan in
    let other = other_than t (get_or s.labels i 0) in
    elim (ltb 1 k) as (λ (b : Bool). shifted_by (record { own = own; other = cond b (Some other) None }) (bounds_at s i)
    ≡ shifted_bounds b own other (bounds_at s i)) [ true ↦ refl | false ↦ refl ]

module _ (coords : List Float) (k d it i : ℕ) (t : Best) (s s' : State) where
  pub leaf_anew : (r : Bool) → i < length s.low → i < length s.high → Spent (turns_of k t i s) (bounds_at s i)
      → LeafPlaced coords k d i s s' r → LeafPassed coords k d it i (shift_leaf k t i s) s' (Some r)
  unfolding put_bounds
  leaf_anew r hl hh spent l =
      let y = shift_of k t i s in
      let h : skips it (bounds_at (put_bounds i y s) i) ≡ false =
      ap (skips it) (bounds_same k i y s refl hl hh ∙ sym (shifted_leaf k i t s)) ∙ spent.stays it in
      record {
        answer = rw h (ap Some l.change);
        state = rw h (l.state ∙ sym (best_anew k i y s (best_of coords k d s i) spent.scaled));
      }
