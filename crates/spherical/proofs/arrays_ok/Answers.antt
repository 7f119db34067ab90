-- `spherical::arrays_ok` meets its contract: the product is within reach, by the limits of k and d; the tests are those of the definition.
-- Assumes nothing.
use native.Mathlib.Nat.{mul-le-mul}
use native.Mathlib.Omega.{arith}
use Rattle.spherical.proofs.arrays_ok.Goals as goal

pub overflow_mul-kd : goal.overflow_mul-kd
overflow_mul-kd c = omega (arith, mul-le-mul c.requires.1 c.requires.2)
