-- Laws of several dot products at once: with j turns done, what is left of each from its accumulator is the whole dot. By the laws of a single dot. Assumes
-- nothing.
use mathlib.Core.Path.{◌≡◌, ap, sym, ◌∙◌}
use mathlib.Core.List.{List}
use mathlib.Core.Logic.{⊎_elim, ◌≢◌}
use Prim.Native.Nat.{ℕ, ◌+◌, ◌*◌, ◌≤◌, ◌<◌, min}
use native.Mathlib.Omega.{arith}
use lib.ListN.{length, get_or, drop, set, replicate, length-set, length-replicate}
use lib.Ieee.{Float, nan, binary64, add, mul}
use Rattle.float.specs.Arithmetic.{minus_zero, dot_from}
use Rattle.float.proofs.Order.{lt_or_ge}
use Rattle.rows.specs.Rows.{row_of}
use Rattle.rows.proofs.Rows.{row_within, row_get, length_part}
use Rattle.rows.proofs.Tabulate.{tabulate_is}
use Rattle.std.proofs.lemmas.List.{get_or-set_same, get_or-set_other, get_or-replicate}
use Rattle.vector.specs.Vectors.{dot_of}
use Rattle.vector.specs.Dots.{dots_of}
use Rattle.vector.proofs.Vectors.{dot_turn, dot_end}

module _ (x rows : List Float) (d n : ℕ) where
  -- of dot c, whose accumulator is among s, j turns are done
  abbrev pub Gone : (s : List Float) (j c : ℕ) → Type 0
  Gone s j c = dot_from (get_or s c nan) (drop j x) (drop j (row_of rows d c)) ≡ dot_of x (row_of rows d c)

  -- of all dots; of those before c one more
  pub record Going (s : List Float) (j : ℕ) : Type 0 where
    pub long : length s ≡ n
    pub all : (c : ℕ) → c < n → Gone s j c

  pub record Turning (s : List Float) (j c : ℕ) : Type 0 where
    pub long : length s ≡ n
    pub before : (e : ℕ) → e < c → Gone s (j + 1) e
    pub after : (e : ℕ) → c ≤ e → e < n → Gone s j e

  pub begun : Going (replicate n minus_zero) 0
  begun = record {
    long = length-replicate n minus_zero;
    all = λ c h. ap (λ (v : Float). dot_from v x (row_of rows d c)) (get_or-replicate n c minus_zero nan h);
  }

  pub turn_begun : (s : List Float) (j : ℕ) → Going s j → Turning s j 0
  turn_begun s j g = record { long = g.long; before = λ e h. absurd (omega arith); after = λ e l h. g.all e h }

  pub turn_done : (s : List Float) (j c : ℕ) → n ≤ c → Turning s j c → Going s (j + 1)
  turn_done s j c l g = record { long = g.long; all = λ e h. g.before e (omega arith) }

  pub gone : (s : List Float) (j : ℕ) → length rows ≡ n * d → min (length x) d ≤ j → Going s j → s ≡ dots_of x rows d n
  gone s j long e g =
      tabulate_is (λ (c : ℕ). dot_of x (row_of rows d c)) s n nan g.long
      (λ c h. let r : length (row_of rows d c) ≡ d = length_part rows (c * d) d (omega (arith, long, row_within c n d h)) in
      sym (dot_end (get_or s c nan) x (row_of rows d c) j (omega arith)) ∙ g.all c h)

  -- k is the place of the row's element
  module _ (s : List Float) (j c k : ℕ) (place : k ≡ c * d + j) (long : length rows ≡ n * d) (hx : j < length x) (hd : j < d) (hc : c < n)
      (g : Turning s j c) where
    abbrev more : Float
    more = add binary64 (get_or s c nan) (mul binary64 (get_or x j nan) (get_or rows k nan))

    -- accumulator c with its product added
    this_gone : Gone (set s c more) (j + 1) c
    this_gone =
        let r : length (row_of rows d c) ≡ d = length_part rows (c * d) d (omega (arith, long, row_within c n d hc)) in
        rw (get_or-set_same s c more nan (omega (arith, g.long)), place, ← row_get rows d c j nan hd)
        (dot_turn (get_or s c nan) x (row_of rows d c) j hx (omega arith) ∙ g.after c (omega arith) hc)

    -- another as it was
    other_gone : (i e : ℕ) → e ≢ c → Gone s i e → Gone (set s c more) i e
    other_gone i e ne h = rw (get_or-set_other s c e more nan ne) h

    pub turned : Turning (set s c more) j (c + 1)
    turned = record {
      long = simp length-set g.long;
      before = λ e h. ⊎_elim (λ (l : e < c). other_gone (j + 1) e (omega arith) (g.before e l))
          (λ (l : c ≤ e). let q : e ≡ c = omega arith in rw q this_gone)
          (lt_or_ge e c);
      after = λ e l h. other_gone j e (omega arith) (g.after e (omega arith) h);
    }
