-- `limits::work_ok` meets its contract: no product or sum is out of reach, by the limits of m, k and d; the tests are those of the
-- definition. Assumes nothing.
use Prim.Native.Nat.{◌*◌, ◌≤◌}
use native.Mathlib.Nat.{mul-le-mul}
use native.Mathlib.Omega.{arith}
use Rattle.limits.proofs.work_ok.Goals.{Start}
use Rattle.limits.proofs.work_ok.Goals as goal

products : (c : Start) → (c.args.m * c.args.k ≤ 262144) × (c.args.k * c.args.d ≤ 16384)
products c = (mul-le-mul c.requires.0 c.requires.1, mul-le-mul c.requires.1 c.requires.2)

pub overflow_mul-mk : goal.overflow_mul-mk
overflow_mul-mk c = omega (arith, products c)

pub overflow_mul-kd : goal.overflow_mul-kd
overflow_mul-kd c = omega (arith, products c)

pub overflow_mul-needed : goal.overflow_mul-needed
overflow_mul-needed c = omega (arith, products c)

pub overflow_mul-needed-2 : goal.overflow_mul-needed-2
overflow_mul-needed-2 c = omega (arith, products c)

pub overflow_add-needed : goal.overflow_add-needed
overflow_add-needed c = omega (arith, products c)

pub overflow_add-needed-2 : goal.overflow_add-needed-2
overflow_add-needed-2 c = omega (arith, products c)

pub overflow_add-needed-3 : goal.overflow_add-needed-3
overflow_add-needed-3 c = omega (arith, products c)
