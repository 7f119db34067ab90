-- `kmeans_update::refresh` meets its contract: a turn serves one leaf more. Assumes nothing.
use Rattle.kmeans_update.proofs.Served.{refresh_turn}
use Rattle.kmeans_update.proofs.refresh.Goals as goal

pub loop-i-preserved : goal.loop-i-preserved
loop-i-preserved c =
    let l = c.loop-i in
    let r = c.refresh_leaf in
    refresh_turn c.args.area.now l.area r.new.area l.i c.loop-i-test.true l.invariant r.ensures.around r.ensures.state
