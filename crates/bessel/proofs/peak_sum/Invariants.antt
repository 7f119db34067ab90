-- `bessel::peak_sum` meets its contract. The invariant: after k turns m is the whole number k + 1, and the series with 200001 − k turns left, from
-- log_a, s and m on, is the whole one. The measure falls as m grows, which the test against 200000 bounds. Assumes nothing.
use mathlib.Core.Path.{◌≡◌}
use Prim.Native.Nat.{ℕ, suc, ◌+◌, ◌-◌, ◌≤◌}
use lib.Ieee.{to_unsigned}
use Rattle.float.specs.Arithmetic.{number}
use Rattle.bessel.specs.Normalizer.{series_from, peak_sum_of}
use Rattle.bessel.proofs.peak_sum.Given as goal

abbrev pub invariant-loop-s : goal.invariant-loop-s
invariant-loop-s l =
    (k : ℕ) × (k ≤ 200000) × (l.m ≡ number (k + 1)) × (series_from (suc (200000 - k)) l.nu l.kappa l.half_ln l.log_a l.s l.m ≡ peak_sum_of l.nu l.kappa l.half_ln l.first)

abbrev pub decreases-loop-s : goal.decreases-loop-s
decreases-loop-s l = 200002 - to_unsigned 64 l.m
