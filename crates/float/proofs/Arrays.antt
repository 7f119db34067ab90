-- What an array's `map` needs of a function that no call changes, and what it gives, element by element. Assumes nothing.
use Rattle.std.proofs.Common.{◌≡◌, ℕ, zero, suc, ◌+◌, ◌<◌, List, [], ◌∷◌, length, map, sym, subst, ◌∙◌, arith, slice_index_or}
use denote.Param.Members.{Mut, Called}
use Rattle.std.specs.Array.{list_steps, IsMapOf, MapsFrom}
use Rattle.std.specs.Iterator.{CallableAtEachTurn, Yields}
use Rattle.std.specs.List.{All, AllZip, FoldsTo}
use Rattle.std.proofs.lemmas.List.Elements.{All-nil, All-cons, All-head, All-same, All-rest}
use Rattle.std.proofs.lemmas.Slice.Zip.{AllZip-long, AllZip-map}

-- ---- two lists, place by place
zipped : {A B : Type 0} (S : A → B → Type 0) (xs : List A) (ys : List B) → length xs ≡ length ys
    → ((i : ℕ) (d : A) (e : B) → i < length xs → S (slice_index_or xs i d) (slice_index_or ys i e)) → AllZip S xs ys
zipped S [] [] l h = tt
zipped S [] (y ∷ ys) l h = absurd (omega arith)
zipped S (x ∷ xs) [] l h = absurd (omega arith)
zipped S (x ∷ xs) (y ∷ ys) l h = (h 0 x y (omega arith), zipped S xs ys (omega arith) (λ i d e k. h (suc i) d e (omega arith)))

zip_with : {V A B : Type 0} (R : V → A → Type 0) (S : A → B → Type 0) (R' : V → B → Type 0)
    → ((v : V) (x : A) (y : B) → R v x → S x y → R' v y) → (vs : List V) (xs : List A) (ys : List B)
    → AllZip R vs xs → AllZip S xs ys → AllZip R' vs ys
zip_with R S R' by [] [] [] a b = tt
zip_with R S R' by [] [] (y ∷ ys) a b = absurd b
zip_with R S R' by [] (x ∷ xs) ys a b = absurd a
zip_with R S R' by (v ∷ vs) [] ys a b = absurd a
zip_with R S R' by (v ∷ vs) (x ∷ xs) [] a b = absurd b
zip_with R S R' by (v ∷ vs) (x ∷ xs) (y ∷ ys) a b = (by v x y a.0 b.0, zip_with R S R' by vs xs ys a.1 b.1)

all_by : {V A : Type 0} (R : V → A → Type 0) (Q : A → Type 0) → ((v : V) (x : A) → R v x → Q x) → (vs : List V) (xs : List A)
    → AllZip R vs xs → All Q xs
all_by R Q by [] [] a = All-nil Q
all_by R Q by [] (x ∷ xs) a = absurd a
all_by R Q by (v ∷ vs) [] a = absurd a
all_by R Q by (v ∷ vs) (x ∷ xs) a = All-cons Q x xs (by v x a.0) (all_by R Q by vs xs a.1)

-- ---- the calls may be made
unmoved : {A P : Type 0} (R : P → A → P → Type 0) → ((q : P) (x : A) (v : P) → R q x v → v ≡ q) → (xs : List A) (p q : P)
    → FoldsTo R p xs q → q ≡ p
unmoved R same [] p q c = sym c
unmoved R same (x ∷ xs) p q c = unmoved R same xs c.0 q c.2 ∙ same p x c.0 c.1

left_over : {A : Type 0} (P : A → Type 0) (xs l t : List A) → Yields list_steps l xs t → All P l → All P t
left_over P [] l t y h = subst (All P) y h
left_over P (x ∷ xs) l t y h = left_over P xs y.0 t y.2 (All-rest P x y.0 l y.1 h)

pub callable_on : {A P : Type 0} (R : P → A → P → Type 0) (Q : P → A → Type 0) (l : List A) (p : P)
    → ((q : P) (x : A) (v : P) → R q x v → v ≡ q) → All (Q p) l → CallableAtEachTurn list_steps R Q l p
callable_on R Q l p same h =
    record {
      at = λ xs t q x u y c z.
          subst (λ k. Q k x) (sym (unmoved R same xs p q c))
          (All-head (Q p) x u (All-same (Q p) (x ∷ u) t (sym z) (left_over (Q p) xs l t y h)));
    }

-- the same, where each element goes with one of another list
pub callable_with : {V A P : Type 0} (R : P → A → P → Type 0) (Q : P → A → Type 0) (l : List A) (p : P)
    → ((q : P) (x : A) (v : P) → R q x v → v ≡ q) → (Z : V → A → Type 0) (vs : List V) → AllZip Z vs l
    → ((v : V) (x : A) → Z v x → Q p x) → CallableAtEachTurn list_steps R Q l p
callable_with R Q l p same Z vs z by = callable_on R Q l p same (all_by Z (Q p) by vs l z)

-- ---- what they gave
module _ {F A B : Type 0} (m : Mut F (A × Unit {0}) B) (f : F)
    (same : (q : F) (x : A) (y : B) (v : F) → Called m q (x, tt) y v → v ≡ q) (xs : List A) (ys : List B) where
  maps_at : (n i j k : ℕ) → MapsFrom m f xs ys i n → k < n → j ≡ i + k → (d : A) (e : B)
      → (q : F) × Called m f (slice_index_or xs j d, tt) (slice_index_or ys j e) q
  maps_at zero i j k h l t d e = absurd (omega arith)
  maps_at (suc n) i j zero h l t d e =
      let at : j ≡ i = omega arith in
      rw (at, h.3.1 d, h.4.1 e) (h.0, h.5)
  maps_at (suc n) i j (suc k) h l t d e =
      let s : h.0 ≡ f = same f h.1 h.2 h.0 h.5 in
      maps_at n (i + 1) j k (subst (λ q. MapsFrom m q xs ys (i + 1) n) s h.6) (omega arith) (omega arith) d e

  pub map_zips : (S : A → B → Type 0) {n : ℕ} → length xs ≡ n → IsMapOf m f xs ys n
      → ((x : A) (y : B) (q : F) → Called m f (x, tt) y q → S x y) → AllZip S xs ys
  map_zips S {n} l h by =
      zipped S xs ys (l ∙ sym h.long)
      (λ i d e k. let c = maps_at n 0 i i h.each (omega arith) (omega arith) d e in by _ _ c.0 c.1)

  -- each is one function's value
  pub map_is : (h : A → B) {n : ℕ} → length xs ≡ n → IsMapOf m f xs ys n
      → ((x : A) (y : B) (q : F) → Called m f (x, tt) y q → y ≡ h x) → ys ≡ map h xs
  map_is h l is by = AllZip-map h xs ys (map_zips (λ x y. y ≡ h x) l is by)

  -- element by element, of those of a list that has one for each
  pub map_with : {V : Type 0} (R : V → A → Type 0) (S : V → B → Type 0) (vs : List V) {n : ℕ} → length vs ≡ n → AllZip R vs xs
      → IsMapOf m f xs ys n → ((v : V) (x : A) (y : B) (q : F) → R v x → Called m f (x, tt) y q → S v y) → AllZip S vs ys
  map_with R S vs l z is by =
      zip_with R (λ x y. (q : F) × Called m f (x, tt) y q) S (λ v x y a c. by v x y c.0 a c.1) vs xs ys z
      (map_zips (λ x y. (q : F) × Called m f (x, tt) y q) (AllZip-long R vs xs z ∙ l) is (λ x y q c. (q, c)))
