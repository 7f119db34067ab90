-- Document 01, 'Arithmetic under the Rust': the natural logarithm, operation by operation. Definitions only.
use Rattle.std.specs.Prelude.{ℕ, zero, suc, ◌+◌, ◌-◌, ◌*◌, ◌^◌, true, false, cond, ℤ, pos, ◌+ℤ◌, Float}
use Rattle.std.specs.Float.{nan, inf, fin, binary64}
use Rattle.std.specs.Float.Ieee.{minus, add, sub, mul, div, lt, of_int, round, size}
use Rattle.float.specs.Arithmetic.{f64, number}
use Rattle.float.specs.Parts.{units_of}
use Rattle.exponential.specs.Exponential.{part_h, part_t}

-- x = 2^e·f with 1 ≤ f < 2: e, and f, which is an f64, so that `round` changes nothing
unfoldable pub exponent_of : Float → ℤ
unfolding units_of
exponent_of x = minus (size (units_of x)) 1075

unfoldable pub fraction_of : Float → Float
unfolding units_of
fraction_of x = round binary64 false (units_of x) (2 ^ (size (units_of x) - 1))

-- p = 1/j + z·p, for the i odd numbers j = 2·i − 1 down to 1
unfoldable pub ln_from : ℕ → Float → Float → Float
ln_from zero z p = p
ln_from (suc i) z p = ln_from i z (add binary64 (div binary64 (number 1) (number (2 * i + 1))) (mul binary64 z p))

-- e·H + ((2·s)·p + e·T), with s = (f − 1)/(f + 1), z = s·s and p from 1/21 by j = 19, 17, .. 1
unfoldable pub ln_at : Float → Float → Float
unfolding ln_from
ln_at e f =
    let s = div binary64 (sub binary64 f (number 1)) (add binary64 f (number 1)) in
    let p = ln_from 10 (mul binary64 s s) (div binary64 (number 1) (number 21)) in
    add binary64 (mul binary64 e part_h)
    (add binary64 (mul binary64 (mul binary64 (number 2) s) p) (mul binary64 e part_t))

-- f is halved and e raised by 1 where f > 1.4142135623730951
unfoldable pub ln_by : ℤ → Float → Float
unfolding ln_at
ln_by e f =
    cond (lt (f64 0x3FF6A09E667F3BCD) f)
    (ln_at (of_int binary64 (e +ℤ pos 1)) (mul binary64 f (f64 0x3FE0000000000000)))
    (ln_at (of_int binary64 e) f)

-- NaN for NaN and below zero, −infinity at ±0; +infinity is kept
unfoldable pub ln_of : Float → Float
unfolding exponent_of fraction_of ln_by
ln_of nan = nan
ln_of (inf s) = cond s nan (inf s)
ln_of (fin s zero e) = inf true
ln_of (fin true (suc m) e) = nan
ln_of (fin false (suc m) e) = ln_by (exponent_of (fin false (suc m) e)) (fraction_of (fin false (suc m) e))
