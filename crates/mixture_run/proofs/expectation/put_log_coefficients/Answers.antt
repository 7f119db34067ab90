-- `put_log_coefficients` meets its contract: a turn writes the log coefficient of group c. Assumes nothing.
use mathlib.Core.Path.{ap, ◌∙◌}
use native.Mathlib.Omega.{arith}
use lib.ListN.{set}
use lib.Ieee.{binary64, add}
use Rattle.float.specs.Arithmetic.{max_of}
use Rattle.logarithm.specs.Logarithm.{ln_of}
use Rattle.mixture_kappa.specs.Groups.{weight_floor}
use Rattle.mixture_run.specs.Mixture.{log_coefficient_at}
use Rattle.mixture_run.specs.Areas.{Parts, parts_of, model_of, with_log_coefficients}
use Rattle.mixture_run.proofs.Written.{written_turn, written_end}
use Rattle.mixture_run.proofs.expectation.put_log_coefficients.Goals as goal

pub loop-c-preserved : goal.loop-c-preserved
loop-c-preserved c =
    let a = c.args.area.now in
    let p = parts_of a in
    let l = c.loop-c in
    let i = l.invariant in
    let d = c.of-order.result.d in
    let v = c.log_coefficient.result in
    let is =
    c.log_coefficient.ensures ∙ ap (add binary64 (ln_of (max_of _ weight_floor))) c.norm_for-norm.ensures
    ∙ ap (λ (q : Parts). log_coefficient_at d (model_of q) l.c) i.1 in (
      i.0,
      written_turn with_log_coefficients (log_coefficient_at d (model_of p)) a.log_coefficients.now p _ l.c v
          (omega (arith, c.loop-c-test.true, a.sized.log_coefficients_long)) is
          (ap (λ (q : Parts). with_log_coefficients (set q.log_coefficients l.c v) q) i.1),
      c.norm_for-norm.ensures,
    )

pub returns-clause-parts : goal.returns-clause-parts
returns-clause-parts c =
    let a = c.args.area.now in
    let p = parts_of a in
    let l = c.loop-c in
    rw (← c.of-order.ensures)
    (written_end with_log_coefficients (log_coefficient_at c.of-order.result.d (model_of p)) a.log_coefficients.now p _ l.c a.shape.k
    (omega (arith, l.auto.c-end, c.loop-c-test.false)) a.sized.log_coefficients_long l.invariant.1)
