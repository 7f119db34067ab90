-- What `std::array::from_fn` gives of a function that no call changes: the list of its values. Assumes nothing.
use Rattle.std.proofs.Common.{◌≡◌, ℕ, zero, suc, ◌+◌, ◌<◌, List, subst, arith, slice_index_or}
use denote.Param.Members.{Mut, Called}
use Rattle.std.specs.Array.{IsFromFnResult, IsFromFnResultFrom}
use Rattle.rows.specs.Tabulate.{tabulate}
use Rattle.rows.proofs.Tabulate.{tabulate_is}

module _ {F B : Type 0} (m : Mut F (ℕ × Unit {0}) B) (f : F)
    (same : (q : F) (i : ℕ) (y : B) (v : F) → Called m q (i, tt) y v → v ≡ q) (ys : List B) where
  made_at : (n i j k : ℕ) → IsFromFnResultFrom m f ys i n → k < n → j ≡ i + k → (z : B)
      → (q : F) × Called m f (j, tt) (slice_index_or ys j z) q
  made_at zero i j k h l t z = absurd (omega arith)
  made_at (suc n) i j zero h l t z =
      let at : j ≡ i = omega arith in
      rw (at, h.2.1 z) (h.0, h.3)
  made_at (suc n) i j (suc k) h l t z =
      let s : h.0 ≡ f = same f i h.1 h.0 h.3 in
      made_at n (i + 1) j k (subst (λ q. IsFromFnResultFrom m q ys (i + 1) n) s h.4) (omega arith) (omega arith) z

  pub made_is : (h : ℕ → B) (n : ℕ) (z : B) → IsFromFnResult m f ys n
      → ((i : ℕ) (y : B) (q : F) → i < n → Called m f (i, tt) y q → y ≡ h i) → ys ≡ tabulate h n
  made_is h n z is by =
      tabulate_is h ys n z is.long (λ i l. let c = made_at n 0 i i is.each l (omega arith) z in by i _ c.0 l c.1)
