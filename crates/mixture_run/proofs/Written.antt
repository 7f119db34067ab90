-- Parts of which one is written from its front: what is written stands before what was there. Over plain lists. Assumes nothing.
use mathlib.Core.Path.{◌≡◌, ap, ◌∙◌}
use mathlib.Core.List.{List, ◌++◌}
use Prim.Native.Nat.{ℕ, ◌+◌, ◌<◌}
use lib.ListN.{length, drop, set}
use lib.Ieee.{Float, nan}
use Rattle.rows.specs.Tabulate.{tabulate}
use Rattle.rows.proofs.Fills.{front_end}
use Rattle.rows.proofs.Tabulate.{tabulated_turn}
use Rattle.mixture_run.specs.Areas.{Parts}

module _ (put : List Float → Parts → Parts) (f : ℕ → Float) (l : List Float) (p₀ : Parts) where
  -- the first c elements are written
  abbrev pub written : ℕ → Parts
  written c = put (tabulate f c ++ drop c l) p₀

  pub written_turn : (p : Parts) (c : ℕ) (v : Float) → c < length l → v ≡ f c → p ≡ put (set (tabulate f c ++ drop c l) c v) p₀
      → p ≡ written (c + 1)
  written_turn p c v h e g = g ∙ ap (λ (r : List Float). put r p₀) (tabulated_turn f l c v nan h e)

  pub written_end : (p : Parts) (c n : ℕ) → c ≡ n → length l ≡ n → p ≡ written c → p ≡ put (tabulate f n) p₀
  written_end p c n e h g =
      g ∙ ap (λ (j : ℕ). written j) e ∙ ap (λ (r : List Float). put r p₀) (front_end (tabulate f n) l n h)
