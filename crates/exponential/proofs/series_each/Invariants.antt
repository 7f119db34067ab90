-- `exponential::series_each` meets its contract. The loop's invariant: the steps that are left lead where all 13 lead from the start.
-- Assumes nothing.
use Rattle.std.proofs.Common.{◌≡◌, ◌-◌, map}
use Rattle.exponential.specs.Steps.{summed}
use Rattle.exponential.proofs.series_each.Given as goal

abbrev pub invariant-loop-i : goal.invariant-loop-i
invariant-loop-i g l = map (summed (13 - l.i)) l.s ≡ map (summed 13) l.fn.s
