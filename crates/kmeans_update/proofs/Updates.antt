-- The update: what a row put among the sums does to its own row and to later ones, over plain lists, and that group after group makes what
-- the definition says. Assumes nothing.
use mathlib.Core.Path.{◌≡◌, refl, ap, ◌∙◌}
use mathlib.Core.List.{List}
use mathlib.Core.Bool.{Bool, true, false, cond}
use Prim.Native.Nat.{ℕ, ◌+◌, ◌*◌, ◌-◌, ◌≤◌, ◌<◌}
use native.Mathlib.Omega.{arith}
use native.Mathlib.Numerals.{add-one}
use lib.Dec.{eqb}
use lib.ListN.{length, get_or, take, drop}
use lib.Ieee.{Float}
use Rattle.rows.specs.Rows.{part, put_part, row_of}
use Rattle.pick.specs.Places.{argmin_of}
use Rattle.rows.proofs.Rows.{row_within, length_part, part_put, drop_put}
use Rattle.kmeans_layout.specs.State.{State}
use Rattle.kmeans_layout.specs.Areas.{state_of, Same}
use Rattle.kmeans_layout.specs.declared.Area.{Area}
use Rattle.kmeans_update.specs.Update.{Update, fresh_update, move_center, reseeded, reseed_from, recentered}
use Rattle.kmeans_update.specs.Update.{recenter, update_group, update_up_to}
use Rattle.kmeans_update.specs.Groups.{Beside}
use Rattle.kmeans_sums.specs.Sums.{center_by}

-- a row r that the code puts in the place of row c
pub row_put : (l r : List Float) (c k d : ℕ) → length r ≡ length (part l (c * d) (c * d + d - c * d)) → length l ≡ k * d → c < k
    → row_of (put_part l (c * d) (c * d + d - c * d) r) d c ≡ r
row_put l r c k d f long h =
    let g : c * d + d - c * d ≡ d = omega arith in
    let in_list : c * d + d ≤ length l = omega (arith, long, row_within c k d h) in
    rw g (part_put l (c * d) d r (rw g at f ∙ length_part l (c * d) d in_list) (omega (arith, in_list)))

-- the rows after row c stay where another row is put in its place
pub row_after : (l r : List Float) (c k d e : ℕ) → length r ≡ d → length l ≡ k * d → c < e → e < k
    → row_of (put_part l (c * d) d r) d e ≡ row_of l d e
row_after l r c k d e f long h g =
    let q : drop (e * d) (put_part l (c * d) (length r) r) ≡ drop (e * d) l =
    drop_put l (c * d) (e * d) r (omega (arith, f, row_within c e d h)) (omega (arith, long, row_within e k d g)) in
    ap (λ (x : List Float). take d x) (rw f at q)

-- the state after a group goes by the state before it and by the row of its sum, not by the leaves picked
same_group : (coords : List Float) (d : ℕ) (sums sums' : List Float) (counts : List ℕ) (c : ℕ) (s : State) (b : Update) → s ≡ b.state
    → row_of sums d c ≡ row_of sums' d c
    → (update_group coords d sums counts c (fresh_update s)).state ≡ (update_group coords d sums' counts c b).state
same_group coords d sums sums' counts c s b e f = go (eqb (get_or counts c 0) 0)
  where
    go : (t : Bool) → (cond t (reseed_from coords d c (argmin_of s.served) (fresh_update s)) (recenter d sums c (fresh_update s))).state
        ≡ (cond t (reseed_from coords d c (argmin_of b.state.served) b) (recenter d sums' c b)).state
    go true = ap (λ (x : State). reseeded coords d c (argmin_of x.served) x) e
    go false =
        ap (λ (x : List Float). move_center d c (center_by x (row_of s.centers d c)) s) f ∙ ap (λ (x : State). recentered d sums' c x) e

-- the area after c groups: the definition's state, and the sums of the groups to come
pub record UpdatedTo (a₀ a : Area) (c : ℕ) : Type 0 where
  pub same : Same a₀ a
  pub counts : a.counts.now ≡ a₀.counts.now
  pub rows : (e : ℕ) → c ≤ e → e < a₀.shape.k → row_of a.sums.now a₀.shape.d e ≡ row_of a₀.sums.now a₀.shape.d e
  pub state : state_of a ≡ (update_up_to a₀.leaves.coords.now a₀.shape.d a₀.sums.now a₀.counts.now (state_of a₀) c).state

pub groups_start : (a : Area) → UpdatedTo a a 0
unfolding update_up_to
groups_start a = record { same = (refl, refl); counts = refl; rows = λ e h g. refl; state = refl }

pub groups_turn : (a₀ a a' : Area) (c : ℕ) → UpdatedTo a₀ a c → c < a₀.shape.k → Beside c a a'
    → state_of a' ≡ (update_group a.leaves.coords.now a.shape.d a.sums.now a.counts.now c (fresh_update (state_of a))).state
    → UpdatedTo a₀ a' (c + 1)
unfolding update_up_to
groups_turn a₀ a a' c o below b g =
    let up = update_up_to a₀.leaves.coords.now a₀.shape.d a₀.sums.now a₀.counts.now (state_of a₀) c in
    let later : (e : ℕ) → c < e → e < a₀.shape.k → row_of a'.sums.now a₀.shape.d e ≡ row_of a.sums.now a₀.shape.d e =
    rw o.same.0 at b.rows in
    let g' : state_of a'
    ≡ (update_group a₀.leaves.coords.now a₀.shape.d a.sums.now a₀.counts.now c (fresh_update (state_of a))).state =
    g ∙ rw (o.same.0, o.same.1, o.counts) in
    record {
      same = (b.same.0 ∙ o.same.0, b.same.1 ∙ o.same.1);
      counts = b.counts ∙ o.counts;
      rows = λ j h l. later j (omega arith) l ∙ o.rows j (omega arith) l;
      state =
          rw add-one
          (g' ∙ same_group a₀.leaves.coords.now a₀.shape.d a.sums.now a₀.sums.now a₀.counts.now c (state_of a) up o.state
          (o.rows c (omega arith) below));
    }
