-- `float::clamp` meets its contract: each answer is a case of `clamp_of` by its two tests. Assumes nothing.
use Rattle.float.specs.Arithmetic.{clamp_of}
use Rattle.float.proofs.clamp.Goals as goal

pub returns-then-x-low : goal.returns-then-x-low
unfolding clamp_of
returns-then-x-low c = simp c.if-x-low.true

pub returns-then-high-x : goal.returns-then-high-x
unfolding clamp_of
returns-then-high-x c = simp (c.if-x-low.false, c.if-high-x.true)

pub returns-else-high-x : goal.returns-else-high-x
unfolding clamp_of
returns-else-high-x c = simp (c.if-x-low.false, c.if-high-x.false)
