-- How large counts get, alone, together and added up, and sums over a range. The laws of sums by recursion on the length of the range.
-- Assumes nothing.
use mathlib.Core.Path.{◌≡◌, refl}
use Prim.Native.Nat.{ℕ, zero, suc, ◌+◌, ◌*◌, ◌≤◌, ◌<◌}
use native.Mathlib.Nat.{mul-add}
use native.Mathlib.Omega.{arith}
use Rattle.counts.specs.declared.Counts.{Counts}
use Rattle.counts.specs.Counts.{no_counts, plus_of, sum_over, AtMost}

-- ---- at most so much
pub at_most_none : (most : ℕ) → AtMost most no_counts
at_most_none most = record { made = omega arith; saved = omega arith }

pub at_most_more : {p q : ℕ} {c : Counts} → p ≤ q → AtMost p c → AtMost q c
at_most_more h a = record { made = omega (arith, h, a.made); saved = omega (arith, h, a.saved) }

pub at_most_plus : {p q : ℕ} {a b : Counts} → AtMost p a → AtMost q b → AtMost (p + q) (plus_of a b)
at_most_plus ha hb = record { made = omega (arith, ha.made, hb.made); saved = omega (arith, ha.saved, hb.saved) }

-- ---- sums over a range

-- a sum of zeros
pub none_over : (f : ℕ → ℕ) (lo n : ℕ) → ((i : ℕ) → lo ≤ i → i < lo + n → f i ≡ 0) → sum_over f lo n ≡ 0
unfolding sum_over
none_over f lo zero h = refl
none_over f lo (suc n) h =
    omega (arith, none_over f lo n (λ (i : ℕ) least most. h i least (omega arith)), h (lo + n) (omega arith) (omega arith))

-- two sums in one
pub sums_add : (f g h : ℕ → ℕ) → ((j : ℕ) → f j + g j ≡ h j) → (lo n : ℕ) → sum_over f lo n + sum_over g lo n ≡ sum_over h lo n
unfolding sum_over
sums_add f g h e lo zero = refl
sums_add f g h e lo (suc n) = omega (arith, sums_add f g h e lo n, e (lo + n))

-- a sum whose terms are at most c times another's
pub sums_most : (f g : ℕ → ℕ) (c : ℕ) → ((j : ℕ) → f j ≤ c * g j) → (lo n : ℕ) → sum_over f lo n ≤ c * sum_over g lo n
unfolding sum_over
sums_most f g c e lo zero = omega arith
sums_most f g c e lo (suc n) = omega (arith, sums_most f g c e lo n, e (lo + n), mul-add c (sum_over g lo n) (g (lo + n)))
