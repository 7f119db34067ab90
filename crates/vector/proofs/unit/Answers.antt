-- `vector::unit` meets its contract: the vector is copied, and a norm above 0 divides the copy, by what `norm`, `copy` and `divide_by` ensure. Each return is a law
-- over plain values. Assumes nothing.
use mathlib.Core.Path.{◌≡◌, ap, ◌∙◌}
use mathlib.Core.List.{List}
use mathlib.Core.Bool.{true, false}
use lib.Ieee.{Float, lt, of_bits}
use Rattle.float.specs.Arithmetic.{plus_zero}
use Rattle.vector.specs.Vectors.{norm_of, divided_by, unit_vector}
use Rattle.vector.proofs.unit.Goals as goal

module _ (v w to : List Float) (n : Float) (norm : n ≡ norm_of v) (copy : w ≡ v) where
  divided : lt plus_zero n ≡ true → to ≡ divided_by n w → to ≡ unit_vector v
  unfolding unit_vector
  divided t e = rw (← norm, t) (e ∙ ap (divided_by n) copy)

  kept : lt plus_zero n ≡ false → w ≡ unit_vector v
  unfolding unit_vector
  kept t = rw (← norm, t) copy

pub returns-then-n : goal.returns-then-n
unfolding of_bits
returns-then-n c =
    divided c.args.from.now c.copy.new.to c.divide_by.new.row c.norm-n.result c.norm-n.ensures c.copy.ensures c.if-n.true c.divide_by.ensures

pub returns-else-n : goal.returns-else-n
unfolding of_bits
returns-else-n c =
    let v = c.args.from.now in
    kept v c.copy.new.to v c.norm-n.result c.norm-n.ensures c.copy.ensures c.if-n.false
