-- A file longer than any leaf file is listed as its first 8,713 bytes are: both are refused, and alike. By the sizes, which both have, and
-- the lengths, which fit neither. Assumes nothing.
use mathlib.Core.Path.{◌≡◌, refl, sym, ap, ap₂, ◌∙◌}
use mathlib.Core.List.{List}
use mathlib.Core.Bool.{Bool, true, false, ◌&&◌}
use Prim.Native.Nat.{ℕ, zero, suc, ◌+◌, ◌*◌, ◌≤◌, ◌<◌}
use native.Mathlib.Nat.{mul-le-mul}
use native.Mathlib.Omega.{arith}
use lib.Dec.{leb, eqb}
use lib.ListN.{length, take}
use lib.Seq.{length-take-le, get_or-take}
use borrow.Author.Tests.{le-leb, leb-true, ne_eqb}
use Rattle.std.specs.Prelude.{Result, Ok, Err, ⊤}
use Rattle.limits.specs.Refusals.{need}
use Rattle.limits.specs.declared.Refusal.{Refusal}
use Rattle.limits.specs.declared.Refusal.TheVariants.{FileLength, FileSizes}
use Rattle.limits.proofs.Limits.{both}
use Rattle.leaf_file.specs.LeafFile.{Leaves, whole_at, refusal_by, file_refusal, leaves_in}
use Rattle.leaf_file.specs.Listing.{listing_by, listing}

-- a number within the first n bytes
whole_take : (bytes : List ℕ) (n at k : ℕ) → at + k ≤ n → whole_at (take n bytes) at k ≡ whole_at bytes at k
unfolding whole_at
whole_take bytes n at zero h = refl
whole_take bytes n at (suc k) h =
    ap₂ (λ (a b : ℕ). a + 256 * b) (get_or-take n bytes at 0 (omega arith)) (whole_take bytes n (at + 1) k (omega arith))

-- the length of a leaf file is at most 8,712
never : (n m d : ℕ) → 8712 < n → m ≤ 64 → d ≤ 16 → ¬ (n ≡ 8 + 8 * m + 8 * (m * d))
never n m d h p q e = absurd (omega (arith, mul-le-mul {n₁ = m} {m₁ = d} {n₂ = 64} {m₂ = 16} p q))

-- 9, or else 8
abbrev code : Bool → Result ⊤ Refusal
code true = Err FileLength
code false = Err FileSizes

refused_long : (n m d : ℕ) → 8712 < n → refusal_by n m d ≡ code (leb m 64 && leb d 16)
refused_long n m d h = by (leb m 64 && leb d 16) (λ t. let b = both (leb m 64) (leb d 16) t in
    ne_eqb n (8 + 8 * m + 8 * (m * d)) (never n m d h (leb-true m 64 b.0) (leb-true d 16 b.1)))
  where
    by : (b : Bool) → (b ≡ true → eqb n (8 + 8 * m + 8 * (m * d)) ≡ false)
        → need b FileSizes (need (eqb n (8 + 8 * m + 8 * (m * d))) FileLength (Ok tt)) ≡ code b
    by true f = rw (f refl)
    by false f = refl

file_long : (bytes : List ℕ) → 8712 < length bytes → file_refusal bytes ≡ code (leb (whole_at bytes 0 4) 64 && leb (whole_at bytes 4 4) 16)
unfolding file_refusal
file_long bytes h =
    let e : leb 8 (length bytes) ≡ true = le-leb 8 (length bytes) (omega arith) in
    rw e (refused_long (length bytes) (whole_at bytes 0 4) (whole_at bytes 4 4) h)

-- a refusal's text does not depend on the leaves
same_text : (b : Bool) (l r : Leaves) → listing_by (code b) l ≡ listing_by (code b) r
same_text true l r = refl
same_text false l r = refl

pub listed_long : (bytes : List ℕ) → 8713 ≤ length bytes → listing (take 8713 bytes) ≡ listing bytes
listed_long bytes h =
    let n : length (take 8713 bytes) ≡ 8713 = length-take-le 8713 bytes h in
    let p = file_long (take 8713 bytes) (omega (arith, n)) in
    let m = whole_take bytes 8713 0 4 (omega arith) in
    let d = whole_take bytes 8713 4 4 (omega arith) in
    let q : file_refusal (take 8713 bytes) ≡ code (leb (whole_at bytes 0 4) 64 && leb (whole_at bytes 4 4) 16) =
    p ∙ ap₂ (λ (i j : ℕ). code (leb i 64 && leb j 16)) m d in
    ap (λ (c : Result ⊤ Refusal). listing_by c (leaves_in (take 8713 bytes))) q
    ∙ same_text (leb (whole_at bytes 0 4) 64 && leb (whole_at bytes 4 4) 16) (leaves_in (take 8713 bytes)) (leaves_in bytes)
    ∙ ap (λ (c : Result ⊤ Refusal). listing_by c (leaves_in bytes)) (sym (file_long bytes (omega arith)))
