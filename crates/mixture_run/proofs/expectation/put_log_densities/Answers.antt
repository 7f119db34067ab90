-- `put_log_densities` meets its contract: a turn writes four log densities more, or one. Assumes nothing.
use mathlib.Core.Path.{◌≡◌, refl, ap, ◌∙◌}
use Prim.Native.Nat.{◌+◌, ◌*◌, ◌-◌}
use native.Mathlib.Omega.{arith}
use Rattle.rows.specs.Rows.{row_of}
use Rattle.rows.specs.Tabulate.{tabulate}
use Rattle.rows.proofs.Rows.{row_within}
use Rattle.mixture_run.specs.Areas.{parts_of}
use Rattle.mixture_run.proofs.Same.{same_here}
use Rattle.mixture_run.proofs.Expected.{row_start, row_turn, row_block, row_done}
use Rattle.mixture_run.proofs.expectation.put_log_densities.Goals as goal

pub loop-b-init : goal.loop-b-init
loop-b-init c =
    let a = c.args.area.now in
    let z = a.shape in
    (same_here a, row_start z.d z.k c.args.i (row_of a.leaves.coords.now z.d c.args.i) (parts_of a))

pub loop-b-preserved : goal.loop-b-preserved
loop-b-preserved c =
    let a = c.args.area.now in
    let z = a.shape in
    let x = row_of a.leaves.coords.now z.d c.args.i in
    let l = c.loop-b in
    let i = l.invariant in
    let to = c.args.i * z.k + 4 * l.b in
    let cut : to + 4 - to ≡ 4 = omega arith in
    let next : 4 * l.b + 4 ≡ 4 * (l.b + 1) = omega arith in
    let within = row_within c.args.i z.m z.k c.requires in (
      i.0,
      row_block z.d z.k c.args.i x (parts_of a) (parts_of l.area) _ (4 * l.b) i.1 4
          (omega (arith, within, a.sized.responsibilities_long, c.loop-b-test.true))
          (rw (cut, c.copy_from_slice.ensures.after, c.log_densities-f.ensures, i.0.0, i.0.1) refl)
          ∙ ap (row_done z.d z.k c.args.i x (parts_of a)) next,
    )

pub loop-c-preserved : goal.loop-c-preserved
unfolding tabulate
loop-c-preserved c =
    let a = c.args.area.now in
    let z = a.shape in
    let x = row_of a.leaves.coords.now z.d c.args.i in
    let l = c.loop-c in
    let i = l.invariant in
    let first : l.c + 0 ≡ l.c = omega arith in
    let within = row_within c.args.i z.m z.k c.requires in (
      i.0,
      row_turn z.d z.k c.args.i x (parts_of a) (parts_of l.area) _ l.c i.1
          (omega (arith, within, a.sized.responsibilities_long, c.loop-c-test.true))
          (rw (c.log_densities.ensures, first, i.0.0, i.0.1) refl),
    )
