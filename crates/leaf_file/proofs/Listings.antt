-- The listing: a text from the start of an array, and the text of a file's answer with as many labels as it has leaves. Assumes nothing.
use mathlib.Core.Path.{◌≡◌, refl, sym, ap, subst, ◌∙◌}
use mathlib.Core.List.{List, ◌++◌}
use Prim.Native.Nat.{ℕ}
use native.Mathlib.Omega.{arith}
use lib.ListN.{length, take, drop, take-append-drop}
use Rattle.rows.proofs.Tabulate.{tabulate_length}
use Rattle.std.specs.Prelude.{Result, Ok, Err, ⊤}
use Rattle.limits.specs.declared.Refusal.{Refusal}
use Rattle.leaf_file.specs.LeafFile.{FileFit, Leaves, whole_at, leaves_in, file_refusal, file_fit_by, file_fit}
use Rattle.leaf_file.specs.Listing.{text_of, blank, listing_by, listing}
use Rattle.leaf_file.specs.Texts.{written, behind, Grown}
use Rattle.leaf_file.specs.declared.Text.{Text}

text_by : (r : Result ⊤ Refusal) (l : Leaves) (m : ℕ) → (r ≡ Ok tt → m ≡ length l.weights)
    → text_of (file_fit_by r l blank).answer (take m (file_fit_by r l blank).labels) ≡ listing_by r l
text_by (Ok x) l m h = rw (h refl)
text_by (Err e) l m h = refl

text_listed : (bytes : List ℕ) (x : FileFit) (m : ℕ) → x ≡ file_fit bytes blank → (file_refusal bytes ≡ Ok tt → m ≡ whole_at bytes 0 4)
    → text_of x.answer (take m x.labels) ≡ listing bytes
text_listed bytes x m e h =
    ap (λ (y : FileFit). text_of y.answer (take m y.labels)) e
    ∙ text_by (file_refusal bytes) (leaves_in bytes) m (λ z. h z ∙ sym (tabulate_length _ (whole_at bytes 0 4)))

-- the listing of a file, as a text from the start of an array
pub list_end : (bytes : List ℕ) (x : FileFit) (m : ℕ) (t t' : Text) → x ≡ file_fit bytes blank
    → (file_refusal bytes ≡ Ok tt → m ≡ whole_at bytes 0 4) → t.at ≡ 0 → Grown (text_of x.answer (take m x.labels)) t t'
    → (t'.at ≡ length (listing bytes)) × (t'.out.now ≡ listing bytes ++ drop t'.at t.out.now)
list_end bytes x m t t' p h z q =
    let e = text_listed bytes x m p h in
    let g : Grown (listing bytes) t t' = subst (λ (w : List ℕ). Grown w t t') e q in
    let ends : t'.at ≡ length (listing bytes) = omega (arith, g.ends, z) in
    let whole : written t' ++ behind t' ≡ (written t ++ listing bytes) ++ drop (length (listing bytes)) (behind t) = rw (g.front, g.rest) in
    (ends, sym (take-append-drop t'.at t'.out.now) ∙ rw (z, ← ends) at whole)
