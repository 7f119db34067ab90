-- Laws of how well the leaves are served, and of whether a group is empty: what a turn stores is one more step of the definition. By
-- recursion on the leaves. Assumes nothing.
use mathlib.Core.Path.{◌≡◌, refl, ap, ◌∙◌}
use mathlib.Core.List.{List, ◌++◌}
use mathlib.Core.Bool.{Bool, ◌||◌}
use Prim.Native.Nat.{ℕ, zero, suc, ◌+◌, ◌<◌, ◌≤◌}
use native.Mathlib.Numerals.{add-one}
use native.Mathlib.Omega.{arith}
use lib.Dec.{eqb}
use lib.ListN.{length, get_or, take, drop, length-append}
use lib.Ieee.{Float, nan}
use lib.Seq.{take-length}
use Rattle.std.specs.List.{list_any}
use Rattle.std.proofs.lemmas.List.Folds.{list_any_more}
use Rattle.rows.specs.Rows.{row_of}
use Rattle.rows.proofs.Fills.{front_turn, front_end}
use Rattle.vector.specs.Vectors.{dot_of}
use Rattle.kmeans_layout.specs.State.{State}
use Rattle.kmeans_layout.specs.Areas.{state_of}
use Rattle.kmeans_layout.specs.declared.Area.{Area}
use Rattle.kmeans_update.specs.Update.{empty_up_to, served_up_to, put_served}
use Rattle.kmeans_update.specs.Groups.{serve_leaf, serve_leaves, Around}

-- whether a count is 0, of the first c and of all
empty_first : (counts : List ℕ) (c : ℕ) → c ≤ length counts → list_any (λ y. eqb y 0) (take c counts) ≡ empty_up_to counts c
unfolding empty_up_to
empty_first counts zero h = refl
empty_first counts (suc c) h =
    rw (← add-one) (list_any_more (λ y. eqb y 0) counts c 0 (omega arith))
    ∙ ap (λ (b : Bool). b || eqb (get_or counts c 0) 0) (empty_first counts c (omega arith))

pub empty_any : (counts : List ℕ) (k : ℕ) → length counts ≡ k → list_any (λ y. eqb y 0) counts ≡ empty_up_to counts k
empty_any counts k e = rw (← e) (rw (take-length counts) at (empty_first counts (length counts) (omega arith)))

module _ (coords : List Float) (d : ℕ) (s : State) where
  pub length_served_up : (i : ℕ) → length (served_up_to coords d s i) ≡ i
  unfolding served_up_to
  length_served_up zero = refl
  length_served_up (suc i) = length-append (served_up_to coords d s i) _ ∙ rw (length_served_up i) (omega arith)

  -- the first i leaves are served anew
  abbrev served_by : ℕ → State
  served_by i = put_served (served_up_to coords d s i ++ drop i s.served) s

  serve_turn : (i : ℕ) (t t' : State) → i < length s.served → t ≡ served_by i → t' ≡ serve_leaf coords d i t → t' ≡ served_by (i + 1)
  unfolding put_served served_up_to
  serve_turn i t t' h e f =
      let v = dot_of (row_of coords d i) (row_of s.centers d (get_or s.labels i 0)) in
      let a = served_up_to coords d s i in
      f ∙ rw (e, front_turn nan a s.served i (length_served_up i) v h, add-one)

  pub serve_end : (i m : ℕ) → length s.served ≡ m → i ≡ m → served_by i ≡ serve_leaves coords d m s
  serve_end i m h e = rw (e, front_end (served_up_to coords d s m) s.served m h)

-- the loop over the leaves of the area a₀
pub record Refreshed (a₀ a : Area) (i : ℕ) : Type 0 where
  pub around : Around a₀ a
  pub state : state_of a ≡ served_by a₀.leaves.coords.now a₀.shape.d (state_of a₀) i

pub refresh_start : (a : Area) → Refreshed a a 0
unfolding put_served served_up_to
refresh_start a = record { around = ((refl, refl), refl, refl); state = refl }

pub refresh_turn : (a₀ a a' : Area) (i : ℕ) → i < a₀.shape.m → Refreshed a₀ a i → Around a a'
    → state_of a' ≡ serve_leaf a.leaves.coords.now a.shape.d i (state_of a) → Refreshed a₀ a' (i + 1)
refresh_turn a₀ a a' i h o around g =
    let g' : state_of a' ≡ serve_leaf a₀.leaves.coords.now a₀.shape.d i (state_of a) = g ∙ rw (o.around.0.0, o.around.0.1) in
    record {
      around =
          ((around.0.0 ∙ o.around.0.0, around.0.1 ∙ o.around.0.1), around.1 ∙ o.around.1, around.2 ∙ o.around.2);
      state =
          serve_turn a₀.leaves.coords.now a₀.shape.d (state_of a₀) i (state_of a) (state_of a') (omega (arith, h, a₀.sized.served_long))
          o.state g';
    }
