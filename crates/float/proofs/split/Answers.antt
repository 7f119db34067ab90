-- `float::split` meets its contract. The digits of a subnormal number: where k zeros lead the 64 places, its highest digit stands at place
-- 63 − k, and k − 11 places up at place 52, as the leading one of 53 digits. Assumes nothing.
use mathlib.Core.Path.{◌≡◌, sym, subst}
use Prim.Native.Nat.{ℕ, suc, ◌+◌, ◌-◌, ◌*◌, ◌%◌, ◌^◌, ◌<◌, ◌≤◌}
use native.Mathlib.Nat.{mul_assoc, lt_of_not-le, mul-le-mul_right}
use native.Mathlib.Omega.{arith}
use lib.Count.{count_leading_zeros, leading_top}
use lib.Dec.{T}
use lib.Pow.{pow-add, pow_mono, shl_lt, shl_exact}
use lib.Ieee.{binary64, fits}
use Rattle.float.proofs.Fields.{positive_no_nan, bits_under, normal_split, subnormal_split, subnormal_pos}
use Rattle.float.proofs.split.Goals.{Start}
use Rattle.float.proofs.split.Goals as goal

-- what owning an `f64` tells: the format holds it
held : (c : Start) → T (fits binary64 c.args.x)
held c = subst T (sym c.well_formed.0.1) tt

record Raised (t n : ℕ) : Type 0 where
  value : t * 2 ^ n % 2 ^ 64 * 2 ^ (52 - n) ≡ t * 2 ^ 52
  first : 2 ^ 52 ≤ t * 2 ^ n % 2 ^ 64
  last : t * 2 ^ n % 2 ^ 64 < 2 ^ 53

-- j is the place of the highest digit
raised : (t j n : ℕ) → 2 ^ j ≤ t → t < 2 ^ suc j → j + n ≡ 52 → Raised t n
raised t j n l h e =
    let whole : t * 2 ^ n % 2 ^ 64 ≡ t * 2 ^ n = shl_exact (suc j) n 64 h (omega arith) in
    let k : n + (52 - n) ≡ 52 = omega arith in
    let d : suc j + n ≡ 53 = omega arith in
    record {
      value = rw (whole, mul_assoc t (2 ^ n) (2 ^ (52 - n)), ← pow-add 2 n (52 - n), k);
      first = rw whole (subst (λ (z : ℕ). 2 ^ z ≤ t * 2 ^ n) e (rw (pow-add 2 j n) (mul-le-mul_right (2 ^ n) l)));
      last = rw whole (subst (λ (z : ℕ). t * 2 ^ n < 2 ^ z) d (shl_lt (suc j) n h));
    }

-- the zeros that lead t, and its digits that many less 11 places up
led : (t : ℕ) → 0 < t → t < 2 ^ 52 → let k = count_leading_zeros 64 t in (11 ≤ k) × (k ≤ 63) × Raised t (k - 11)
led t p h =
    let top = leading_top 64 t p (omega arith) in
    let most : top.0 < 52 = lt_of_not-le (λ g. omega (arith, pow_mono g, top.2, h)) in
    let n = count_leading_zeros 64 t - 11 in
    (omega (arith, top.1, most), omega (arith, top.1), raised t top.0 n top.2 top.3 (omega (arith, top.1, most)))

pub float_to_bits-b : goal.float_to_bits-b
float_to_bits-b c = positive_no_nan c.args.x c.requires

pub overflow_sub-n : goal.overflow_sub-n
overflow_sub-n c =
    (led _ (subnormal_pos c.args.x (held (goal.at.overflow_sub-n c).Start) c.requires c.if-f-eq0.true) (omega arith)).0

pub overflow_sub-result : goal.overflow_sub-result
overflow_sub-result c =
    let k = led _ (subnormal_pos c.args.x (held (goal.at.overflow_sub-result c).Start) c.requires c.if-f-eq0.true) (omega arith) in
    omega (arith, k.0, k.1)

pub overflow_add-result-else-f-eq0 : goal.overflow_add-result-else-f-eq0
overflow_add-result-else-f-eq0 c = omega (arith, bits_under c.args.x (held (goal.at.overflow_add-result-else-f-eq0 c).Start) c.requires)

pub returns-then-f-eq0 : goal.returns-then-f-eq0
returns-then-f-eq0 c =
    let x = c.args.x in
    let h = held (goal.at.returns-then-f-eq0 c).Start in
    let r = (led _ (subnormal_pos x h c.requires c.if-f-eq0.true) (omega arith)).2 in
    record { value = subnormal_split x h c.requires _ _ c.if-f-eq0.true r.value; first = r.first; last = r.last; high = omega arith }

pub returns-else-f-eq0 : goal.returns-else-f-eq0
returns-else-f-eq0 c =
    let x = c.args.x in
    let h = held (goal.at.returns-else-f-eq0 c).Start in
    let u = bits_under x h c.requires in
    record { value = normal_split x h c.requires (omega arith); first = omega arith; last = omega arith; high = omega arith }
