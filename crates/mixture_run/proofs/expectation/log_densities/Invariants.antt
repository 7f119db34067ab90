-- The invariant of `log_densities`: the first e dots are turned into log densities. Assumes nothing.
use Rattle.std.specs.Prelude.{◌≡◌, ◌++◌, drop}
use Rattle.rows.specs.Rows.{row_of}
use Rattle.mixture_run.specs.Areas.{parts_of, model_of, log_densities_from}
use Rattle.mixture_run.proofs.expectation.log_densities.Given as goal

abbrev pub invariant-loop-e : goal.invariant-loop-e
invariant-loop-e g l =
    let a = l.area in
    let p = parts_of l.area in
    let x = row_of a.leaves.coords.now a.shape.d l.i in
    l.v-items ≡ log_densities_from a.shape.d p.log_coefficients (model_of p) x l.c l.e ++ drop l.e l.initial.v-items
