-- `replay::fits::times` is safe: both factors are below 2^16. Assumes nothing.
use Rattle.std.proofs.Common.{◌%◌, mul-le-mul, arith}
use Rattle.replay.proofs.fits.times.Goals as goal

pub overflow_mul-result : goal.overflow_mul-result
overflow_mul-result c =
    let a = c.args in
    omega (arith, mul-le-mul {n₁ = a.a % 65536} {m₁ = a.b % 65536} {n₂ = 65535} {m₂ = 65535} (omega arith) (omega arith))
