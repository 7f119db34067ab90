-- `kmeans_sums::add_norms` meets its contract. Assumes nothing.
use mathlib.Core.Path.{refl}
use lib.Ieee.{of_bits}
use Rattle.kmeans_sums.specs.Sums.{norms_up_to}
use Rattle.kmeans_sums.proofs.Sums.{norms_turn}
use Rattle.kmeans_sums.proofs.add_norms.Goals as goal

pub loop-c-init : goal.loop-c-init
unfolding of_bits norms_up_to
loop-c-init c = refl

pub loop-c-preserved : goal.loop-c-preserved
loop-c-preserved c =
    let l = c.loop-c in
    let a = c.args.area.now in
    norms_turn a.sums.now a.shape.d l.c l.total c.sum_norm-total.result l.invariant c.sum_norm-total.ensures
