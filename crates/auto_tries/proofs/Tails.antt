-- The rest of each output: past what the numbers so far fill it is as found, so that the next one is written as into the
-- arrays found. By the laws of `drop`. Assumes nothing.
use mathlib.Core.Path.{◌≡◌, refl, ap, sym, ◌∙◌}
use mathlib.Core.List.{List, ◌++◌}
use Prim.Native.Nat.{ℕ, ◌+◌, ◌*◌}
use native.Mathlib.Nat.{add-mul, mul-add, one-mul, mul-one}
use native.Mathlib.Omega.{arith}
use lib.ListN.{length, drop}
use lib.Seq.{drop-drop, drop_at}
use Rattle.rows.specs.Rows.{row_of}
use Rattle.rows.proofs.Tabulate.{tabulate_length}
use Rattle.pick.specs.Places.{argmax_of}
use Rattle.mixture_run.specs.Mixture.{Em}
use Rattle.mixture_run.specs.Fits.{labels_of, logw_at, logw_of}
use Rattle.mixture_outputs.specs.Outputs.{Outputs, written}
use Rattle.auto_tries.specs.Tries.{Full, Tails}

-- ---- the rest of the arrays
module _ {A : Type 0} (n y p : ℕ) (e : p ≡ n + y) where
  drop_more : (l l' : List A) → drop n l ≡ drop n l' → drop p l ≡ drop p l'
  drop_more l l' h = rw e (sym (drop-drop y n l) ∙ ap (drop y) h ∙ drop-drop y n l')

  drop_past : (x l : List A) → length x ≡ n → drop p (x ++ drop n l) ≡ drop p l
  drop_past x l h = rw e (sym (drop-drop y n (x ++ drop n l)) ∙ ap (drop y) (drop_at x (drop n l) n h) ∙ drop-drop y n l)

module _ (m k d : ℕ) where
  leaves_more : m * (k + 1) ≡ m * k + m
  leaves_more = rw (mul-add, mul-one)

  groups_more : (k + 1) * d ≡ k * d + d
  groups_more = rw (add-mul, one-mul)

  same_leaves : m ≡ m + 0
  same_leaves = omega arith

  pub tails_start : (o : Outputs) → Tails m k d o o
  tails_start o = record { labels = refl; responsibilities = refl; weights = refl; directions = refl; concentrations = refl; logw = refl }

  pub tails_more : (o o₀ : Outputs) → Tails m k d o o₀ → Tails m (k + 1) d o o₀
  tails_more o o₀ t =
      record {
        labels = t.labels;
        responsibilities = drop_more (m * k) m (m * (k + 1)) leaves_more _ _ t.responsibilities;
        weights = drop_more k 1 (k + 1) refl _ _ t.weights;
        directions = drop_more (k * d) d ((k + 1) * d) groups_more _ _ t.directions;
        concentrations = drop_more k 1 (k + 1) refl _ _ t.concentrations;
        logw = drop_more k 1 (k + 1) refl _ _ t.logw;
      }

  pub tails_written : (em : Em) (o : Outputs) → Full m k d em → Tails m (k + 1) d (written m k d em o) o
  unfolding written
  tails_written em o f =
      record {
        labels =
            drop_past m 0 m same_leaves (labels_of em.resp m k) o.labels
            (tabulate_length (λ (i : ℕ). argmax_of (row_of em.resp k i)) m);
        responsibilities = drop_past (m * k) m (m * (k + 1)) leaves_more em.resp o.responsibilities f.resp;
        weights = drop_past k 1 (k + 1) refl em.model.weights o.weights f.weights;
        directions = drop_past (k * d) d ((k + 1) * d) groups_more em.model.directions o.directions f.directions;
        concentrations = drop_past k 1 (k + 1) refl em.model.kappas o.concentrations f.kappas;
        logw = drop_past k 1 (k + 1) refl (logw_of k d em.model) o.logw (tabulate_length (logw_at d em.model) k);
      }

  -- written into arrays with the same rest it is the same
  pub written_same : (em : Em) (o o₀ : Outputs) → Tails m k d o o₀ → written m k d em o ≡ written m k d em o₀
  unfolding written
  written_same em o o₀ t = rw (t.labels, t.responsibilities, t.weights, t.directions, t.concentrations, t.logw)
