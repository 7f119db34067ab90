-- No reseed picks a leaf twice in one update. Group after group (`Clean`): the centres' coordinates are within ±2, no more leaves are
-- picked than groups are done, and none anew. Where a group is empty, served is refreshed, so each leaf's is a finite dot (`Sound`): a leaf
-- that is picked is served best of all, another is not, and there is another, since fewer are picked than there are; so the worst-served
-- leaf is not among those picked. Assumes nothing.
use mathlib.Core.Path.{◌≡◌, refl, sym, ap, ◌∙◌, subst}
use mathlib.Core.List.{List, [], ◌∷◌}
use mathlib.Core.Logic.{inl, inr}
use mathlib.Core.Bool.{Bool, true, false, not, ◌||◌, cond, true≢false}
use Prim.Native.Nat.{ℕ, zero, suc, ◌+◌, ◌*◌, ◌≤◌, ◌<◌}
use native.Mathlib.Omega.{arith}
use lib.Dec.{T, eqb, lit≤}
use lib.ListN.{length, get_or, set, length-set}
use lib.Seq.{get_or-set_same, get_or-set_other}
use borrow.Author.Tests.{eqb-true, eqb-false, ne_eqb}
use lib.Ieee.{Float, nan, inf, fin, lt, eq, le, is_nan}
use Rattle.float.specs.Arithmetic.{minus_zero}
use Rattle.rows.specs.Rows.{row_of}
use Rattle.vector.specs.Vectors.{dot_of, unit_vector}
use Rattle.pick.specs.Places.{argmin_of}
use Rattle.kmeans_layout.specs.State.{State}
use Rattle.kmeans_sums.specs.Sums.{sums_up_to, counts_up_to, center_by}
use Rattle.float.proofs.Order.{lt_or_ge}
use Rattle.float.proofs.Bound.{Within}
use Rattle.float.proofs.Ranges.{All, dot_256}
use Rattle.vector.proofs.Within.{all_put, all_append, all_row, all_get, row_length, unit_within}
use Rattle.pick.proofs.Places.{either, argmin_below, argmin_least}
use Rattle.kmeans_bounds.proofs.Turns.{neither}
use Rattle.kmeans_sums.proofs.Within.{sums_within, center_within}
use Rattle.kmeans_update.specs.Update.{Update, fresh_update, put_served, move_center, empty_up_to, among, served_up_to, best_served}
use Rattle.kmeans_update.specs.Update.{reseed_from, recenter, update_up_to, update_to}
use Rattle.kmeans_update.specs.Groups.{serve_leaves}
use Rattle.kmeans_update.proofs.Served.{length_served_up}

-- ---- of more leaves than are listed, one is not listed
without : ℕ → List ℕ → List ℕ
without x [] = []
without x (p ∷ ps) = cond (eqb x p) (without x ps) (p ∷ without x ps)

kept_other : (x j : ℕ) (ps : List ℕ) → (j ≡ x → ⊥) → among j (without x ps) ≡ among j ps
unfolding among without
kept_other x j [] n = refl
kept_other x j (p ∷ ps) n = go (eqb x p) refl (kept_other x j ps n)
  where
    go : (b : Bool) → eqb x p ≡ b → among j (without x ps) ≡ among j ps
        → among j (cond b (without x ps) (p ∷ without x ps)) ≡ (eqb j p || among j ps)
    go true e r = rw (ne_eqb j p (λ (h : j ≡ p). n (h ∙ sym (eqb-true x p e)))) r
    go false e r = ap (λ (t : Bool). eqb j p || t) r

no_longer : (x : ℕ) (ps : List ℕ) → length (without x ps) ≤ length ps
unfolding without
no_longer x [] = omega arith
no_longer x (p ∷ ps) = go (eqb x p) (no_longer x ps)
  where
    go : (b : Bool) → length (without x ps) ≤ length ps → length (cond b (without x ps) (p ∷ without x ps)) ≤ suc (length ps)
    go true r = omega arith
    go false r = omega arith

shorter : (x : ℕ) (ps : List ℕ) → among x ps ≡ true → length (without x ps) < length ps
unfolding among without
shorter x [] e = absurd (true≢false (sym e))
shorter x (p ∷ ps) e = go (eqb x p) (no_longer x ps) (shorter x ps) e
  where
    go : (b : Bool) → length (without x ps) ≤ length ps → (among x ps ≡ true → length (without x ps) < length ps) → (b || among x ps) ≡ true
        → length (cond b (without x ps) (p ∷ without x ps)) < suc (length ps)
    go true r f e = omega arith
    go false r f e = omega (arith, f e)

record Free (m : ℕ) (ps : List ℕ) : Type 0 where
  pub leaf : ℕ
  pub below : leaf < m
  pub fresh : among leaf ps ≡ false

free : (m : ℕ) (ps : List ℕ) → length ps < m → Free m ps
free zero ps h = absurd (omega arith)
free (suc m) ps h = go (among m ps) refl (free m (without m ps))
  where
    go : (b : Bool) → among m ps ≡ b → (length (without m ps) < m → Free m (without m ps)) → Free (suc m) ps
    go false e f = record { leaf = m; below = omega arith; fresh = e }
    go true e f =
        let r = f (omega (arith, shorter m ps e)) in
        record {
          leaf = r.leaf;
          below = omega (arith, r.below);
          fresh = sym (kept_other m r.leaf ps (λ (q : r.leaf ≡ m). omega (arith, q, r.below))) ∙ r.fresh;
        }

-- ---- a leaf that is picked is a number, served above every finite one
within_number : (B : ℕ) (x : Float) → Within B 1 x → T (not (is_nan x))
unfolding is_nan
within_number B nan h = absurd h
within_number B (inf s) h = tt
within_number B (fin s m e) h = tt

best_number : T (not (is_nan best_served))
unfolding is_nan
best_number = tt

above_all : (B : ℕ) (x : Float) → Within B 1 x → T (le best_served x) → ⊥
unfolding le lt eq
above_all B nan h g = h
above_all B (inf s) h g = h
above_all B (fin s m e) h g = g

-- without an empty group among k, there is none among fewer
none_before : (counts : List ℕ) (k c : ℕ) → c ≤ k → empty_up_to counts k ≡ false → empty_up_to counts c ≡ false
unfolding empty_up_to
none_before counts zero c l e = let z : 0 ≡ c = omega arith in subst (λ (x : ℕ). empty_up_to counts x ≡ false) z e
none_before counts (suc k) c l e =
    elim (lt_or_ge k c) [
      | inl h ↦ let z : suc k ≡ c = omega arith in subst (λ (x : ℕ). empty_up_to counts x ≡ false) z e
      | inr h ↦ none_before counts k c h (neither (empty_up_to counts k) (eqb (get_or counts k 0) 0) e).0
    ]

-- ---- an update after c groups
pub record Clean (c : ℕ) (u : Update) : Type 0 where
  pub centers : All (Within 2 1) u.state.centers
  pub few : length u.picked ≤ c
  pub none : u.doubled ≡ 0

record Sound (m c : ℕ) (u : Update) : Type 0 where
  pub clean : Clean c u
  pub long : length u.state.served ≡ m
  pub high : (i : ℕ) → i < m → among i u.picked ≡ true → get_or u.state.served i nan ≡ best_served
  pub low : (i : ℕ) → i < m → among i u.picked ≡ false → Within 1024 1 (get_or u.state.served i nan)

module _ (m d : ℕ) (coords : List Float) (hc : All (Within 2 1) coords) (hd : d ≤ 256) where
  -- ---- a reseed
  module _ (c : ℕ) (u : Update) (below : c < m) (s : Sound m c u) where
    numbers : (i : ℕ) → i < length u.state.served → T (not (is_nan (get_or u.state.served i nan)))
    numbers i h = go (among i u.picked) refl
      where
        go : (b : Bool) → among i u.picked ≡ b → T (not (is_nan (get_or u.state.served i nan)))
        go true e = subst (λ (x : Float). T (not (is_nan x))) (sym (s.high i (omega (arith, s.long)) e)) best_number
        go false e = within_number 1024 (get_or u.state.served i nan) (s.low i (omega (arith, s.long)) e)

    abbrev worst : ℕ
    worst = argmin_of u.state.served

    worst_below : worst < m
    worst_below = let h = argmin_below u.state.served (omega (arith, s.long)) in omega (arith, s.long, h)

    -- the leaf picked was not picked before
    fresh : among worst u.picked ≡ false
    fresh = go (among worst u.picked) refl
      where
        go : (b : Bool) → among worst u.picked ≡ b → b ≡ false
        go false e = refl
        go true e =
            let f = free m u.picked (omega (arith, s.clean.few)) in
            let top : get_or u.state.served worst nan ≡ best_served = s.high worst worst_below e in
            absurd (above_all 1024 (get_or u.state.served f.leaf nan) (s.low f.leaf f.below f.fresh)
            (subst (λ (x : Float). T (le x (get_or u.state.served f.leaf nan))) top
            (argmin_least u.state.served numbers f.leaf (omega (arith, s.long, f.below)))))

    reseed_sound : Sound m (suc c) (reseed_from coords d c worst u)
    unfolding move_center put_served among
    reseed_sound =
        let v = u.state.served in
        record {
          clean =
              record {
                centers = all_put (Within 2 1) u.state.centers (c * d) d (unit_vector (row_of coords d worst)) s.clean.centers
                    (unit_within (row_of coords d worst) (omega (arith, row_length coords d worst))
                    (all_row (Within 2 1) coords d worst hc));
                few = omega (arith, s.clean.few);
                none = ap (λ (n : ℕ). n + cond (among worst u.picked) 1 0) s.clean.none ∙ ap (λ (b : Bool). 0 + cond b 1 0) fresh;
              };
          long = length-set v worst best_served ∙ s.long;
          high = λ i h e. high_by i h (eqb i worst) refl e;
          low = λ i h e.
              let o = neither (eqb i worst) (among i u.picked) e in
              subst (Within 1024 1) (sym (get_or-set_other v worst i best_served nan (eqb-false i worst o.0))) (s.low i h o.1);
        }
      where
        high_by : (i : ℕ) → i < m → (b : Bool) → eqb i worst ≡ b → (b || among i u.picked) ≡ true
            → get_or (set u.state.served worst best_served) i nan ≡ best_served
        high_by i h true e g =
            ap (λ (z : ℕ). get_or (set u.state.served worst best_served) z nan) (eqb-true i worst e)
            ∙ get_or-set_same u.state.served worst best_served nan (omega (arith, worst_below, s.long))
        high_by i h false e g = get_or-set_other u.state.served worst i best_served nan (eqb-false i worst e) ∙ s.high i h g

  -- ---- the groups
  module _ (sums : List Float) (counts : List ℕ) (hs : All (Within 9007199254740992 1) sums) (s : State) where
    recenter_clean : (c : ℕ) (u : Update) → Clean c u → Clean (suc c) (recenter d sums c u)
    unfolding move_center
    recenter_clean c u h =
        record {
          centers = all_put (Within 2 1) u.state.centers (c * d) d (center_by (row_of sums d c) (row_of u.state.centers d c))
              h.centers
              (center_within sums u.state.centers d c hd hs h.centers);
          few = omega (arith, h.few);
          none = h.none;
        }

    recenter_sound : (c : ℕ) (u : Update) → Sound m c u → Sound m (suc c) (recenter d sums c u)
    unfolding move_center
    recenter_sound c u h = record { clean = recenter_clean c u h.clean; long = h.long; high = h.high; low = h.low }

    -- where served is refreshed
    updates_sound : Sound m 0 (fresh_update s) → (c : ℕ) → c ≤ m → Sound m c (update_up_to coords d sums counts s c)
    unfolding update_up_to
    updates_sound h zero l = h
    updates_sound h (suc c) l =
        let b = update_up_to coords d sums counts s c in
        let t = updates_sound h c (omega arith) in
        either (Sound m (suc c)) (eqb (get_or counts c 0) 0) (reseed_from coords d c (argmin_of b.state.served) b) (recenter d sums c b)
        (reseed_sound c b l t) (recenter_sound c b t)

    -- without an empty group nothing is picked
    updates_full : Clean 0 (fresh_update s) → (c : ℕ) → empty_up_to counts c ≡ false → Clean c (update_up_to coords d sums counts s c)
    unfolding update_up_to empty_up_to
    updates_full h zero e = h
    updates_full h (suc c) e =
        let o = neither (empty_up_to counts c) (eqb (get_or counts c 0) 0) e in
        let b = update_up_to coords d sums counts s c in
        subst (λ (t : Bool). Clean (suc c) (cond t (reseed_from coords d c (argmin_of b.state.served) b) (recenter d sums c b)))
        (sym o.1)
        (recenter_clean c b (updates_full h c o.0))

  -- ---- served refreshed: each a dot of two rows within ±2
  served_within : (s : State) → All (Within 2 1) s.centers → (n : ℕ) → All (Within 1024 1) (served_up_to coords d s n)
  unfolding served_up_to
  served_within s h zero = tt
  served_within s h (suc n) =
      let x = row_of coords d n in
      let y = row_of s.centers d (get_or s.labels n 0) in
      all_append (Within 1024 1) (served_up_to coords d s n) (dot_of x y ∷ []) (served_within s h n) (
        dot_256 minus_zero x y (omega (arith, row_length coords d n)) (lit≤ tt) (all_row (Within 2 1) coords d n hc)
            (all_row (Within 2 1) s.centers d (get_or s.labels n 0) h),
        tt,
      )

  fresh_clean : (s : State) → All (Within 2 1) s.centers → Clean 0 (fresh_update s)
  fresh_clean s h = record { centers = h; few = omega arith; none = refl }

  refreshed_sound : (s : State) → All (Within 2 1) s.centers → Sound m 0 (fresh_update (serve_leaves coords d m s))
  unfolding put_served among
  refreshed_sound s h =
      record {
        clean = fresh_clean _ h;
        long = length_served_up coords d s m;
        high = λ i l e. absurd (true≢false (sym e));
        low = λ i l e.
            all_get (Within 1024 1) (served_up_to coords d s m) i (served_within s h m) (omega (arith, length_served_up coords d s m, l));
      }

  -- ---- the whole update, after c of its k groups
  pub update_clean : (weights : List Float) (k : ℕ) (s : State) → All (Within 1099511627776 1) weights → length weights ≡ m → m ≤ 4096
      → k ≤ m
      → All (Within 2 1) s.centers → (c : ℕ) → c ≤ k → Clean c (update_to weights coords m k d s c)
  update_clean weights k s hw lw lm lk h c l = go (empty_up_to counts k) refl
    where
      counts : List ℕ
      counts = counts_up_to s.labels k m

      sums : List Float
      sums = sums_up_to weights coords s.labels k d m

      hs : All (Within 9007199254740992 1) sums
      hs = sums_within weights coords s.labels k d hw hc m (omega (arith, lw)) lm

      again : State
      again = serve_leaves coords d m s

      go : (b : Bool) → empty_up_to counts k ≡ b → Clean c (update_up_to coords d sums counts (cond b again s) c)
      go true e = (updates_sound sums counts hs again (refreshed_sound s h) c (omega arith)).clean
      go false e = updates_full sums counts hs s (fresh_clean s h) c (none_before counts k c l e)
