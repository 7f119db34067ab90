-- `em` meets its contract: at the start all rounds are left, and one that is the last ends them. Assumes nothing.
use mathlib.Core.Path.{◌∙◌}
use Prim.Native.Nat.{◌+◌, ◌-◌}
use native.Mathlib.Nat.{sub-zero}
use native.Mathlib.Omega.{arith}
use lib.Ieee.{div, neg, of_bits}
use Rattle.mixture_run.specs.Areas.{parts_of, em_of}
use Rattle.mixture_run.proofs.Same.{same_here}
use Rattle.mixture_run.proofs.Rounds.{em_stop}
use Rattle.mixture_run.proofs.em.Goals as goal

pub loop-it-init : goal.loop-it-init
unfolding div neg of_bits
loop-it-init c = (same_here c.args.area.now, rw sub-zero)

pub returns-then-stops-clause-rounds_done : goal.returns-then-stops-clause-rounds_done
returns-then-stops-clause-rounds_done c =
    let a = c.args.area.now in
    let z = a.shape in
    let l = c.loop-it in
    let i = l.invariant in
    let n = c.args.rounds in
    em_stop c.args.kappa a.leaves.weights.now a.leaves.coords.now z.m z.k z.d (n - l.it) (n - (l.it + 1)) l.it
    (em_of (parts_of l.area) l.loglik) _ c.stops_at-stops.result (omega (arith, c.loop-it-test.true))
    (rw (← i.0.0, ← i.0.1) c.em_round-new.ensures.round) c.stops_at-stops.ensures c.if-stops.true
    ∙ i.1
