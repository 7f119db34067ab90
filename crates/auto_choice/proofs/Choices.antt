-- What the choice among the scores of a range is: the first least of those below +infinity, or none where there is no such score; and no
-- range has two best numbers. By recursion on the range. Assumes nothing.
use mathlib.Core.Path.{◌≡◌, refl, subst}
use mathlib.Core.Logic.{◌⊎◌, inl, inr, ⊎_elim}
use mathlib.Core.Bool.{Bool, true, false, not}
use Prim.Native.Nat.{ℕ, zero, suc, ◌+◌, ◌-◌, ◌≤◌, ◌<◌}
use native.Mathlib.Omega.{arith}
use lib.Dec.{T, T_not, not_T}
use lib.Ieee.{Float, inf, lt, le, is_nan}
use Rattle.float.proofs.Order.{lt_or_ge, nan_below, lt_irrefl, lt_trans, lt_splits, le_of_nlt, nlt_of_le}
use Rattle.std.specs.Prelude.{Some, None}
use Rattle.auto_choice.specs.Choice.{Choice, number_with, held_score, choose_by, choose, chosen, BestOf}

either : (b : Bool) → T b ⊎ T (not b)
either true = inl tt
either false = inr tt

-- a y that is not below x, which is below +infinity: a NaN, or x ≤ y
not_less : (x y : Float) → T (lt x (inf false)) → T (not (lt y x)) → T (is_nan y) ⊎ T (le x y)
not_less x y h g =
    ⊎_elim inl (λ p. inr (le_of_nlt y x p (not_T (is_nan x) (λ q. nan_below x (inf false) q h)) g)) (either (is_nan y))

module _ (f : ℕ → Float) (lo : ℕ) where
  -- what a choice among the first n numbers means
  abbrev pub Means : ℕ → Choice → Type 0
  Means n None = (j : ℕ) → lo ≤ j → j < lo + n → T (not (lt (f j) (inf false)))
  Means n (Some c) = (c.score ≡ f c.k) × BestOf f lo (lo + n - 1) c.k

  -- none of the first n scores is below the one held
  none_below : (n : ℕ) (c : Choice) → Means n c → (j : ℕ) → lo ≤ j → j < lo + n → T (lt (f j) (held_score c)) → ⊥
  none_below n None m j p q h = T_not (lt (f j) (inf false)) (m j p q) h
  none_below n (Some c) m j p q h =
      let k = c.k in
      let g : T (lt (f j) (f k)) = subst (λ (y : Float). T (lt (f j) y)) m.0 h in
      ⊎_elim
      (λ l. ⊎_elim (λ r. nan_below (f j) (f k) r g) (λ r. lt_irrefl (f k) (lt_trans (f k) (f j) (f k) r g)) (m.1.smaller j p l))
      (λ l. ⊎_elim
      (λ r. ⊎_elim (λ t. nan_below (f j) (f k) t g) (λ t. nlt_of_le (f j) (f k) t g) (m.1.larger j r (omega arith)))
      (λ r. lt_irrefl (f k) (subst (λ (i : ℕ). T (lt (f i) (f k))) (omega arith) g))
      (lt_or_ge k j))
      (lt_or_ge j k)

  below_top : (n : ℕ) (c : Choice) → Means n c → (x : Float) → T (lt x (held_score c)) → T (lt x (inf false))
  below_top n None m x h = h
  below_top n (Some c) m x h = lt_trans x (f c.k) (inf false) (subst (λ (z : Float). T (lt x z)) m.0 h) m.1.below

  -- the next number is kept
  kept : (n : ℕ) (c : Choice) → Means n c → T (lt (f (lo + n)) (held_score c)) → BestOf f lo (lo + suc n - 1) (lo + n)
  kept n c m h =
      record {
        least = omega arith;
        most = omega arith;
        below = below_top n c m (f (lo + n)) h;
        smaller = λ j p q. ⊎_elim inl
            (λ g. ⊎_elim inr (λ r. absurd (none_below n c m j p q r)) (lt_splits (f (lo + n)) (f j) (held_score c) g h))
            (either (is_nan (f j)));
        larger = λ j p q. absurd (omega arith);
      }

  -- it is not
  left : (n : ℕ) (c : Choice) → Means n c → T (not (lt (f (lo + n)) (held_score c))) → Means (suc n) c
  left n None m h = λ j p q. ⊎_elim (λ l. m j p l) (λ l. subst (λ (i : ℕ). T (not (lt (f i) (inf false)))) (omega arith) h)
      (lt_or_ge j (lo + n))
  left n (Some c) m h =
      let k = c.k in
      let b = m.1 in (
        m.0,
        record {
          least = b.least;
          most = omega (arith, b.most);
          below = b.below;
          smaller = b.smaller;
          larger = λ j p q. ⊎_elim (λ l. b.larger j p (omega arith))
              (λ l. not_less (f k) (f j) b.below (subst (λ (i : ℕ). T (not (lt (f i) (f k)))) (omega arith)
              (subst (λ (y : Float). T (not (lt (f (lo + n)) y))) m.0 h))) (lt_or_ge j (lo + n));
        },
      )

  next : (n : ℕ) (c : Choice) → Means n c → Means (suc n) (choose c (lo + n) (f (lo + n)))
  next n c m = go (lt (f (lo + n)) (held_score c)) (λ t. t) (λ t. t)
    where
      go : (b : Bool) → (T b → T (lt (f (lo + n)) (held_score c))) → (T (not b) → T (not (lt (f (lo + n)) (held_score c))))
          → Means (suc n) (choose_by b (number_with (lo + n) (f (lo + n))) c)
      go true h g = (refl, kept n c m (h tt))
      go false h g = left n c m (g tt)

  pub chosen_means : (n : ℕ) → Means n (chosen f lo n)
  unfolding chosen
  chosen_means zero = λ j p q. absurd (omega arith)
  chosen_means (suc n) = next n (chosen f lo n) (chosen_means n)

  -- ---- no range has two best numbers
  earlier : (hi j k : ℕ) → BestOf f lo hi j → BestOf f lo hi k → j < k → ⊥
  earlier hi j k a b l =
      ⊎_elim (λ g. nan_below (f j) (inf false) g a.below)
      (λ g. ⊎_elim (λ h. nan_below (f k) (inf false) h b.below) (λ h. nlt_of_le (f k) (f j) h g) (a.larger k l b.most))
      (b.smaller j a.least l)

  pub one_best : (hi j k : ℕ) → BestOf f lo hi j → BestOf f lo hi k → j ≡ k
  one_best hi j k a b =
      ⊎_elim (λ l. absurd (earlier hi j k a b l)) (λ l. ⊎_elim (λ g. absurd (earlier hi k j b a g)) (λ g. omega arith) (lt_or_ge k j))
      (lt_or_ge j k)
