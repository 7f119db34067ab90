-- `root::place` meets its contract: the difference is below 2^63 where what is left reaches the step, and not where it does not.
-- Assumes nothing.
use Rattle.std.proofs.Common.{◌<◌, arith}
use Rattle.root.proofs.WholeRoots.{reached, missed}
use Rattle.root.proofs.place.Goals as goal

pub returns-then-over-lt9223372036854775808 : goal.returns-then-over-lt9223372036854775808
returns-then-over-lt9223372036854775808 c =
    λ x o. reached _ c.requires.some (omega arith) o

pub returns-else-over-lt9223372036854775808 : goal.returns-else-over-lt9223372036854775808
returns-else-over-lt9223372036854775808 c =
    let l : c.args.s.rest < c.args.s.step = omega arith in
    λ x o. missed _ c.requires.some l (omega arith) o
