-- `mixture_softmax::greater` meets its contract: what is above another is no NaN. Assumes nothing.
use mathlib.Core.Path.{◌≡◌, refl, sym}
use mathlib.Core.Bool.{true, false}
use lib.Ieee.{Float, nan, inf, fin, lt, is_nan}
use Rattle.float.specs.Arithmetic.{max_of}
use Rattle.mixture_softmax.proofs.greater.Goals as goal

above_none : (x y : Float) → lt x y ≡ true → is_nan y ≡ false
unfolding lt is_nan
above_none nan nan h = sym h
above_none (inf s) nan h = sym h
above_none (fin s m e) nan h = sym h
above_none x (inf t) h = refl
above_none x (fin t n d) h = refl

pub returns-then-g-x : goal.returns-then-g-x
unfolding max_of
returns-then-g-x c =
    let a = c.args in
    (rw (c.requires, c.if-g-x.true), above_none a.g a.x c.if-g-x.true)

pub returns-else-g-x : goal.returns-else-g-x
unfolding max_of
returns-else-g-x c = (rw (c.requires, c.if-g-x.false), c.requires)
