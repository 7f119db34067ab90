-- What a file's header says. By unfolding what is refused. Assumes nothing.
use mathlib.Core.Path.{◌≡◌, refl, sym, ap, subst}
use mathlib.Core.List.{List}
use mathlib.Core.Bool.{◌&&◌}
use Prim.Native.Nat.{ℕ, ◌+◌, ◌*◌, ◌≤◌}
use native.Mathlib.Nat.{mul-le-mul}
use native.Mathlib.Omega.{arith}
use lib.Dec.{T, leb, eqb}
use borrow.Author.Tests.{leb-true, eqb-true}
use lib.ListN.{length}
use Rattle.std.specs.Prelude.{Result, Ok, Err, is_err, ⊤}
use Rattle.limits.specs.declared.Refusal.{Refusal}
use Rattle.limits.proofs.Limits.{both, met}
use Rattle.leaf_file.specs.LeafFile.{whole_at, file_refusal, header_by, header_of}
use Rattle.leaf_file.specs.declared.Header.{Header}
use Rattle.leaf_file.specs.Texts.{Sized}

-- what it says that nothing is refused
pub sized : (bytes : List ℕ) (m d : ℕ) → m ≡ whole_at bytes 0 4 → d ≡ whole_at bytes 4 4 → file_refusal bytes ≡ Ok tt
    → (8 ≤ length bytes) × (Sized (length bytes) 64 1024 m d)
unfolding file_refusal
sized bytes m d p q e =
    let e1 = met (leb 8 (length bytes)) _ _ e in
    let e2 = met (leb (whole_at bytes 0 4) 64 && leb (whole_at bytes 4 4) 16) _ _ e1.1 in
    let e3 = met (eqb (length bytes) (8 + 8 * whole_at bytes 0 4 + 8 * (whole_at bytes 0 4 * whole_at bytes 4 4))) _ _ e2.1 in
    let b = both (leb (whole_at bytes 0 4) 64) (leb (whole_at bytes 4 4) 16) e2.0 in
    let few : m ≤ 64 = omega (arith, p, leb-true (whole_at bytes 0 4) 64 b.0) in
    let narrow : d ≤ 16 = omega (arith, q, leb-true (whole_at bytes 4 4) 16 b.1) in (
      leb-true _ _ e1.0,
      record {
        leaves = few;
        numbers = mul-le-mul {n₁ = m} {m₁ = d} {n₂ = 64} {m₂ = 16} few narrow;
        whole = rw (p, q) (eqb-true _ _ e3.0);
      },
    )

-- what the sizes that a file says are, where it is not refused
abbrev header_in : Header → Result Header Refusal → Header
header_in h (Ok g) = g
header_in h (Err e) = h

header_met : (bytes : List ℕ) (r : Result ⊤ Refusal) (h : Header) → header_by r bytes ≡ Ok h
    → (r ≡ Ok tt) × (record { m = whole_at bytes 0 4; d = whole_at bytes 4 4 } ≡ h)
header_met bytes (Ok x) h e = (refl, ap (header_in h) e)
header_met bytes (Err q) h e = absurd (subst (λ (r : Result Header Refusal). T (is_err r)) e tt)

pub header_sized : (bytes : List ℕ) (h : Header) → header_of bytes ≡ Ok h
    → (h.m ≡ whole_at bytes 0 4) × (Sized (length bytes) 64 1024 h.m h.d)
header_sized bytes h e =
    let q = header_met bytes (file_refusal bytes) h e in
    let m = sym (ap (λ (x : Header). x.m) q.1) in
    (m, (sized bytes h.m h.d m (sym (ap (λ (x : Header). x.d) q.1)) q.0).1)
