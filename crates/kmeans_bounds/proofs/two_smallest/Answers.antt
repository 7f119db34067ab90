-- `kmeans_bounds::two_smallest` meets its contract.
use mathlib.Core.Path.{refl, ◌∙◌}
use Prim.Native.Nat.{◌≤◌}
use native.Mathlib.Omega.{arith}
use lib.ListN.{length, drop_of_length-le}
use lib.Ieee.{div, of_bits}
use Rattle.kmeans_bounds.specs.Shifts.{slowest_from}
use Rattle.kmeans_bounds.proofs.Turns.{slowest_turn}
use Rattle.kmeans_bounds.proofs.two_smallest.Goals as goal

pub loop-c-init : goal.loop-c-init
unfolding div of_bits
loop-c-init c = refl

pub loop-c-preserved : goal.loop-c-preserved
loop-c-preserved c =
    slowest_turn c.args.drift.now c.loop-c.c c.loop-c.b c.slower-b.result (omega arith) c.slower-b.ensures ∙ c.loop-c.invariant

pub returns : goal.returns
unfolding slowest_from
returns c =
    let ended : length c.args.drift.now ≤ c.loop-c.c = omega arith in
    rw (drop_of_length-le c.args.drift.now ended) at c.loop-c.invariant
