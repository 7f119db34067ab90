-- A positive float in units of 2^−1074: a whole number for every float that the format holds, and so m·2^e / 2^52 exactly where the float is split into m and e,
-- whose 53 digits say how many the units have. Assumes nothing.
use mathlib.Core.Path.{◌≡◌, sym, ap, ◌∙◌}
use Prim.Native.Nat.{ℕ, suc, ◌+◌, ◌*◌, ◌/◌, ◌^◌, ◌≤◌, ◌<◌}
use native.Mathlib.Nat.{mul_assoc, mul_comm, mul_right_comm, mul-le-mul_right, mul-lt-mul_of_pos_right, eq_of_mul-eq-mul_right, mul-div_cancel}
use native.Mathlib.Omega.{arith}
use mathlib.Core.Bool.{false}
use lib.Dec.{T}
use lib.IntN.{ℤ}
use lib.Pow.{pow_pos, pow-add}
use lib.Ieee.{Float, nan, inf, fin, binary64, down, size, fits}
use lib.Ieee.Fits.{down_pos}
use lib.Ieee.Digits.{size-le}
use lib.Ieee.Positive.{num, den, den_pos, positive}
use Rattle.float.specs.Parts.{units_of, SplitOf}
use Rattle.float.proofs.Rounding.{size_gt}
use Rattle.float.proofs.Scaling.{Multiple}
use Rattle.float.proofs.Units.{grained_of_fits, parts_of, in_units, places}

-- every f64 is a whole number of units of 2^−1074
abbrev pub InUnits : Float → Type 0
InUnits x = Multiple (num x) (den x) 1074

pub in_whole : (x : Float) → T (positive x) → T (fits binary64 x) → InUnits x
in_whole nan p h = absurd p
in_whole (inf s) p h = absurd p
in_whole (fin s m e) p h = grained_of_fits binary64 (fin s m e) h tt

pub units_whole : (x : Float) → InUnits x → units_of x * den x ≡ num x * 2 ^ 1074
unfolding units_of
units_whole x w = ap (λ (z : ℕ). z / den x * den x) w.is ∙ ap (λ (z : ℕ). z * den x) (mul-div_cancel w.times (den_pos x)) ∙ sym w.is

-- the units of a float written in the one way: its odd digits, as many places up
pub units_digits : (m : ℕ) (e : ℤ) → T (fits binary64 (fin false (suc m) e)) → units_of (fin false (suc m) e) ≡ suc m * 2 ^ places e 1074
unfolding units_of
units_digits m e f =
    ap (λ (z : ℕ). z / down e) (in_units (suc m) e 1074 (parts_of binary64 false m e f).fine) ∙ mul-div_cancel (suc m * 2 ^ places e 1074) (down_pos e)

-- n has e + 1 digits
size_is : (n e : ℕ) → 2 ^ e ≤ n → n < 2 ^ (e + 1) → size n ≡ e + 1
size_is n e l h =
    let a : e < size n = size_gt n e l in
    let b : size n ≤ e + 1 = size-le n (e + 1) h in
    omega arith

module _ (x : Float) (w : InUnits x) (m e : ℕ) (s : SplitOf x m e) where
  pub units_split : units_of x * 2 ^ 52 ≡ m * 2 ^ e
  units_split =
      eq_of_mul-eq-mul_right (den x) (den_pos x) (units_of x * 2 ^ 52) (m * 2 ^ e)
      (mul_right_comm (units_of x) (2 ^ 52) (den x) ∙ ap (λ (z : ℕ). z * 2 ^ 52) (units_whole x w) ∙ mul_assoc (num x) (2 ^ 1074) (2 ^ 52) ∙ s.value)

  pub units_size : size (units_of x) ≡ e + 1
  units_size =
      let l : 2 ^ 52 * 2 ^ e ≤ m * 2 ^ e = mul-le-mul_right (2 ^ e) s.first in
      let h : m * 2 ^ e < 2 ^ 53 * 2 ^ e = mul-lt-mul_of_pos_right s.last (pow_pos e) in
      let u = units_split in
      let d : 2 ^ (e + 1) ≡ 2 * 2 ^ e = pow_next e in
      size_is (units_of x) e (omega arith) (omega arith)
    where
      pow_next : (e : ℕ) → 2 ^ (e + 1) ≡ 2 * 2 ^ e
      pow_next e = pow-add 2 e 1 ∙ mul_comm (2 ^ e) 2
