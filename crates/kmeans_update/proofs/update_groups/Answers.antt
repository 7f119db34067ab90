-- `kmeans_update::update_groups` meets its contract: a turn updates one group more. Assumes nothing.
use Rattle.kmeans_update.proofs.Updates.{groups_turn}
use Rattle.kmeans_update.proofs.update_groups.Goals as goal

pub loop-c-preserved : goal.loop-c-preserved
loop-c-preserved c =
    let l = c.loop-c in
    let g = c.update_group in
    groups_turn c.args.area.now l.area g.new.area l.c l.invariant c.loop-c-test.true g.ensures.beside g.ensures.state
