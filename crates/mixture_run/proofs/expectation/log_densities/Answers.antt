-- `log_densities` meets its contract: a turn makes one dot more a log density. Assumes nothing.
use Rattle.rows.specs.Rows.{row_of}
use Rattle.mixture_run.specs.Areas.{parts_of, model_of}
use Rattle.mixture_run.proofs.Expected.{densities_turn}
use Rattle.mixture_run.proofs.expectation.log_densities.Goals as goal

pub loop-e-preserved : goal.loop-e-preserved
loop-e-preserved g c =
    let a = c.args.area.now in
    let p = parts_of a in
    let l = c.loop-e in
    let d = a.shape.d in
    densities_turn d p.log_coefficients (model_of p) (row_of a.leaves.coords.now d c.args.i) c.leaf.result.now c.args.c g.row.N
    c.row_dots-f.result c.row_dots-f.ensures c.leaf.ensures l.v-items l.e l.invariant c.loop-e-test.true
