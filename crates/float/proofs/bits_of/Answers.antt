-- `float::bits_of` meets its contract: only a NaN differs from itself, and it gets the definition's pattern. Assumes nothing.
use mathlib.Core.Path.{◌≡◌, refl, sym, subst}
use mathlib.Core.Bool.{false, not, true≢false}
use lib.Dec.{T}
use lib.Ieee.{Float, nan, inf, fin, binary64, is_nan, ne, eq, to_bits}
use lib.Ieee.Compare.{differs_from_itself}
use Rattle.float.proofs.bits_of.Goals as goal

no_nan : (x : Float) → ne x x ≡ false → T (not (is_nan x))
unfolding ne eq is_nan
no_nan nan e = true≢false e
no_nan (inf s) e = tt
no_nan (fin s m e) h = tt

nan_bits : (x : Float) → x ≡ nan → 9221120237041090560 ≡ to_bits binary64 x
unfolding to_bits
nan_bits x e = rw e

pub float_to_bits-result : goal.float_to_bits-result
float_to_bits-result c = no_nan c.args.x c.if-x.false

pub returns-then-x : goal.returns-then-x
returns-then-x c =
    let x = c.args.x in
    nan_bits x (differs_from_itself x (subst T (sym c.if-x.true) tt))

pub returns-else-x : goal.returns-else-x
returns-else-x c = refl
