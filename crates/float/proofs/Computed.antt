-- What antt computes, as laws: a test whether two f64 are the same, and a test at each of a row of whole numbers. Assumes nothing.
use mathlib.Core.Path.{◌≡◌, refl, sym, ap, subst, ◌∙◌}
use mathlib.Core.Bool.{Bool, true, false, ◌&&◌, beq}
use Prim.Native.Nat.{ℕ, zero, suc, ◌+◌, ◌-◌, ◌<◌, ◌≤◌}
use native.Mathlib.Nat.{add-zero, zero-add, add-suc, suc-add, le_of_suc-le-suc, not-suc-le-zero}
use native.Mathlib.Omega.{arith}
use lib.Dec.{T, eqb, eqb→eq}
use lib.IntN.{ℤ, pos, negsuc}
use lib.Ieee.{Float, nan, inf, fin}
use lib.Ieee.Fits.{and_i, and_l, and_r}

-- ---- two f64 are the same
abbrev same_exponent : ℤ → ℤ → Bool
same_exponent (pos a) (pos b) = eqb a b
same_exponent (pos a) (negsuc b) = false
same_exponent (negsuc a) (pos b) = false
same_exponent (negsuc a) (negsuc b) = eqb a b

abbrev pub same : Float → Float → Bool
same nan nan = true
same nan (inf t) = false
same nan (fin t n d) = false
same (inf s) nan = false
same (inf s) (inf t) = beq s t
same (inf s) (fin t n d) = false
same (fin s m e) nan = false
same (fin s m e) (inf t) = false
same (fin s m e) (fin t n d) = beq s t && (eqb m n && same_exponent e d)

same_sign : (s t : Bool) → T (beq s t) → s ≡ t
same_sign true true h = refl
same_sign true false h = absurd h
same_sign false true h = absurd h
same_sign false false h = refl

same_exponent_law : (e d : ℤ) → T (same_exponent e d) → e ≡ d
same_exponent_law (pos a) (pos b) h = ap pos (eqb→eq a b h)
same_exponent_law (pos a) (negsuc b) h = absurd h
same_exponent_law (negsuc a) (pos b) h = absurd h
same_exponent_law (negsuc a) (negsuc b) h = ap negsuc (eqb→eq a b h)

pub same_eq : (x y : Float) → T (same x y) → x ≡ y
same_eq nan nan h = refl
same_eq nan (inf t) h = absurd h
same_eq nan (fin t n d) h = absurd h
same_eq (inf s) nan h = absurd h
same_eq (inf s) (inf t) h = ap inf (same_sign s t h)
same_eq (inf s) (fin t n d) h = absurd h
same_eq (fin s m e) nan h = absurd h
same_eq (fin s m e) (inf t) h = absurd h
same_eq (fin s m e) (fin t n d) h =
    let a = beq s t in
    let b = eqb m n in
    let c = same_exponent e d in
    let p : s ≡ t = same_sign s t (and_l a (b && c) h) in
    let q : m ≡ n = eqb→eq m n (and_l b c (and_r a (b && c) h)) in
    let r : e ≡ d = same_exponent_law e d (and_r b c (and_r a (b && c) h)) in
    cc

-- ---- a test of i, i + 1 and so on, n of them
abbrev pub all_from : (ℕ → Bool) → ℕ → ℕ → Bool
all_from f i zero = true
all_from f i (suc n) = f i && all_from f (suc i) n

at_place : (f : ℕ → Bool) (i n k : ℕ) → T (all_from f i n) → k < n → T (f (i + k))
at_place f i zero k t h = absurd (not-suc-le-zero h)
at_place f i (suc n) zero t h = subst (λ (m : ℕ). T (f m)) (sym (add-zero i)) (and_l (f i) (all_from f (suc i) n) t)
at_place f i (suc n) (suc k) t h =
    subst (λ (m : ℕ). T (f m)) (suc-add i k ∙ sym (add-suc i k))
    (at_place f (suc i) n k (and_r (f i) (all_from f (suc i) n) t) (le_of_suc-le-suc h))

pub all_at : (f : ℕ → Bool) (i n d : ℕ) → T (all_from f i n) → i ≤ d → d < i + n → T (f d)
all_at f i n d t l h =
    let e : i + (d - i) ≡ d = omega arith in
    subst (λ (m : ℕ). T (f m)) e (at_place f i n (d - i) t (omega arith))

pub all_joined : (f : ℕ → Bool) (i a b : ℕ) → T (all_from f i a) → T (all_from f (i + a) b) → T (all_from f i (a + b))
all_joined f i zero b s t = rw (zero-add b, ← add-zero i) t
all_joined f i (suc a) b s t =
    rw (suc-add a b)
    (and_i (f i) (all_from f (suc i) (a + b)) (and_l (f i) (all_from f (suc i) a) s)
    (all_joined f (suc i) a b (and_r (f i) (all_from f (suc i) a) s) (rw (suc-add i a, ← add-suc i a) t)))
