-- A text that grows: by nothing, by a word, and by one text after another; and the library's decimal, which is the definition's, digit by
-- digit. By the laws of `take` and `drop`. Assumes nothing.
use mathlib.Core.Path.{◌≡◌, refl, sym, ap, ◌∙◌}
use mathlib.Core.Logic.{inl, inr}
use mathlib.Core.List.{List, [], ◌∷◌, ◌++◌, append_assoc, append-nil}
use Prim.Native.Nat.{ℕ, zero, suc, ◌+◌, ◌-◌, ◌^◌, ◌/◌, ◌%◌, ◌≤◌, ◌<◌}
use native.Mathlib.Omega.{arith}
use borrow.Author.Tests.{lt-ltb, le-ltb}
use lib.ListN.{length, take, drop, length-append, length-drop}
use lib.Seq.{drop-drop, take_at, drop_at, length-take-le}
use Rattle.float.proofs.Order.{lt_or_ge}
use Rattle.std.proofs.lemmas.Fmt.{decimal_digit, decimal_step}
use Rattle.std.specs.Fmt as fmt
use Rattle.rows.specs.Rows.{put_part}
use Rattle.leaf_file.specs.Listing.{decimal_in}
use Rattle.leaf_file.specs.Texts.{written, behind, Grown}
use Rattle.leaf_file.specs.declared.Text.{Text}

pub grown_none : (t : Text) → Grown [] t t
grown_none t = record { same = refl; long = refl; ends = omega arith; front = sym (append-nil (written t)); rest = refl }

pub grown_both : {v w : List ℕ} {t t' t″ : Text} → Grown v t t' → Grown w t' t″ → Grown (v ++ w) t t″
grown_both {v = v} {w = w} {t = t} {t' = t'} {t″ = t″} p q =
    record {
      same = q.same ∙ p.same;
      long = q.long ∙ p.long;
      ends = omega (arith, p.ends, q.ends, length-append v w);
      front = rw (q.front, p.front, append_assoc);
      rest = rw (q.rest, p.rest, drop-drop (length w) (length v) (behind t), length-append);
    }

-- a word, as the code copies it to where it cuts
pub grown_word : (w v : List ℕ) (t t' : Text) → t.at + length w ≤ length t.out.now → v ≡ w
    → t'.out.ghost_name ≡ t.out.ghost_name → t'.at ≡ t.at + length w
    → t'.out.now ≡ put_part t.out.now t.at (t.at + length w - t.at) v → Grown w t t'
grown_word w v t t' h e same ends is =
    let p = written t ++ w in
    let q = drop (length w) (behind t) in
    let m : t.at + length w - t.at ≡ length w = omega arith in
    let n : length p ≡ t'.at = omega (arith, ends, length-append (written t) w, length-take-le t.at t.out.now (omega arith)) in
    let whole : t'.out.now ≡ p ++ q = rw (is, e, m, append_assoc) in
    record {
      same = same;
      long = omega (arith, ap length whole, length-append p q, n, ends, length-drop (length w) (behind t), length-drop t.at t.out.now);
      ends = ends;
      front = ap (take t'.at) whole ∙ take_at p q t'.at n;
      rest = ap (drop t'.at) whole ∙ drop_at p q t'.at n;
    }

-- the decimal of the library, of a number of at most p + 1 digits
pub decimal_same : (p n : ℕ) → n < 10 ^ suc p → n < 2 ^ 64 → fmt.decimal n ≡ decimal_in (suc p) n
unfolding decimal_in
decimal_same zero n h g = rw (lt-ltb n 10 (omega arith)) (decimal_digit n (omega arith))
decimal_same (suc p) n h g =
    elim (lt_or_ge n 10) [
      | inl few ↦ rw (lt-ltb n 10 few) (decimal_digit n few)
      | inr many ↦ rw (le-ltb n 10 many) (decimal_step n many g
          ∙ ap (λ (x : List ℕ). x ++ ((48 + n % 10) ∷ [])) (decimal_same p (n / 10) (omega arith) (omega arith)))
    ]
