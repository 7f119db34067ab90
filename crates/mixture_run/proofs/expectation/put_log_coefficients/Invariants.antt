-- The invariant of `put_log_coefficients`: the log coefficients of the first c groups stand before what was there, `norm` is the normalizer
-- of `last`, and nothing changes sizes and leaves. Assumes nothing.
use Rattle.std.specs.Prelude.{◌≡◌}
use Rattle.mixture_kappa.specs.Groups.{log_norm_of}
use Rattle.mixture_run.specs.Mixture.{log_coefficient_at}
use Rattle.mixture_run.specs.Areas.{parts_of, model_of, with_log_coefficients, SameGroups}
use Rattle.mixture_run.proofs.Written.{written}
use Rattle.mixture_run.proofs.expectation.put_log_coefficients.Given as goal

abbrev pub invariant-loop-c : goal.invariant-loop-c
invariant-loop-c l =
    let a = l.initial.area in
    let p = parts_of a in
    (SameGroups a l.area)
    × (parts_of l.area ≡ written with_log_coefficients (log_coefficient_at l.order.d (model_of p)) a.log_coefficients.now p l.c)
    × (l.norm ≡ log_norm_of l.order.d l.last)
