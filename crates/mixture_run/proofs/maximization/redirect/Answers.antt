-- `redirect` meets its contract: a turn renews the direction of group c where its norm is above 0. Assumes nothing.
use Rattle.mixture_run.specs.Areas.{parts_of}
use Rattle.mixture_run.proofs.Same.{same_then}
use Rattle.mixture_run.proofs.Directions.{direction_turn}
use Rattle.mixture_run.proofs.maximization.redirect.Goals as goal

pub loop-c-preserved : goal.loop-c-preserved
loop-c-preserved c =
    let a = c.args.area.now in
    let l = c.loop-c in
    let i = l.invariant in
    let r = c.redirect_group.ensures in (
      same_then a l.area c.redirect_group.new.area i.0 r.same,
      direction_turn a.shape.d (parts_of a) a.shape.k (parts_of l.area) _ l.c c.requires c.loop-c-test.true i.1
          (rw (← i.0.0) r.parts),
    )
