-- `expect` meets its contract: at the end the log densities of all leaves stand in their rows, and one call makes their softmax. Assumes
-- nothing.
use mathlib.Core.Path.{◌≡◌, ap, ◌∙◌}
use mathlib.Core.List.{List}
use native.Mathlib.Omega.{arith}
use lib.ListN.{length}
use lib.Ieee.{Float}
use Rattle.float.specs.Arithmetic.{plus_zero}
use Rattle.mixture_softmax.specs.Leaves.{shares_up_to, logs_up_to}
use Rattle.mixture_run.specs.Areas.{parts_of, with_resp}
use Rattle.mixture_run.proofs.Same.{same_here, same_then}
use Rattle.mixture_run.proofs.Expected.{rows_start, rows_turn, rows_end}
use Rattle.mixture_run.proofs.expectation.expect.Goals as goal

pub loop-i-init : goal.loop-i-init
loop-i-init c =
    let a = c.args.area.now in
    (same_here a, rows_start a.leaves.coords.now a.shape.k a.shape.d (parts_of a))

pub loop-i-preserved : goal.loop-i-preserved
loop-i-preserved c =
    let a = c.args.area.now in
    let z = a.shape in
    let l = c.loop-i in
    let i = l.invariant in
    let r = c.put_log_densities.ensures in (
      same_then a l.area c.put_log_densities.new.area i.0 r.same,
      rows_turn a.leaves.coords.now z.k z.d (parts_of a) (parts_of l.area) _ l.i i.1 (rw (← i.0.0, ← i.0.1) r.parts),
    )

pub returns-clause-parts : goal.returns-clause-parts
returns-clause-parts c =
    let a = c.args.area.now in
    let z = a.shape in
    let x = a.leaves in
    let l = c.loop-i in
    let i = l.invariant in
    let r = c.log_softmax_rows in
    let rows = l.area.responsibilities.now in
    let w = x.weights.now in
    let e =
    rows_end x.coords.now z.k z.d (parts_of a) w (parts_of l.area) l.i z.m (omega (arith, l.auto.i-end, c.loop-i-test.false))
    a.fit.weights_long a.sized.responsibilities_long i.1 in
    let log : r.result ≡ logs_up_to z.k rows w plus_zero (length w) = rw (← i.0.0, ← i.0.1) r.ensures.0 in
    let resp : r.new.rows ≡ shares_up_to z.k rows (length w) = rw (← i.0.0, ← i.0.1) r.ensures.1 in
    (log ∙ e.0, ap (λ (s : List Float). with_resp s (parts_of l.area)) resp ∙ e.1)
