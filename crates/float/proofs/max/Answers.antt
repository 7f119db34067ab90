-- `float::max` meets its contract: a case of `max_of` for each answer, by what `x != x` says. Assumes nothing.
use mathlib.Core.Path.{◌≡◌, refl, sym, subst}
use mathlib.Core.Bool.{true, false}
use lib.Ieee.{Float, lt, ne, is_nan}
use Rattle.float.specs.Arithmetic.{max_of}
use Rattle.float.proofs.Tests.{is_nan_law, is_number}
use Rattle.float.proofs.max.Goals as goal

by_nan : (x y : Float) → ne x x ≡ true → y ≡ max_of x y
unfolding max_of is_nan
by_nan x y h = subst (λ (z : Float). y ≡ max_of z y) (sym (is_nan_law x h)) refl

by_less : (x y : Float) → ne x x ≡ false → lt x y ≡ true → y ≡ max_of x y
unfolding max_of
by_less x y h k = rw (is_number x h, k)

by_rest : (x y : Float) → ne x x ≡ false → lt x y ≡ false → x ≡ max_of x y
unfolding max_of
by_rest x y h k = rw (is_number x h, k)

pub returns-then-x : goal.returns-then-x
returns-then-x c = by_nan c.args.x c.args.y c.if-x.true

pub returns-then-x-y : goal.returns-then-x-y
returns-then-x-y c = by_less c.args.x c.args.y c.if-x.false c.if-x-y.true

pub returns-else-x-y : goal.returns-else-x-y
returns-else-x-y c = by_rest c.args.x c.args.y c.if-x.false c.if-x-y.false
