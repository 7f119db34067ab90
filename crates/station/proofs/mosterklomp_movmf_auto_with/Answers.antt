-- `station::mosterklomp_movmf_auto_with` meets its contract: what the fit says of its number and its labels is said of the numbers that
-- are lent. Assumes nothing.
use Rattle.std.proofs.Common.{rules}
use Rattle.mixture_outputs.specs.Outputs.{arrays}
use Rattle.border.specs.Answers.{chosen}
use Rattle.border.proofs.Put.{chosen_first, chosen_best}
use Rattle.station.proofs.mosterklomp_movmf_auto_with.Goals as goal

pub returns-clause-keeps_best : goal.returns-clause-keeps_best
returns-clause-keeps_best c =
    let a = c.args in
    let best =
    chosen_best (chosen 0 a.groups.now a.loglik.now a.score.now a.counts.now) _ _ c.give_chosen.ensures _ _ _ _ _ _ _ _ _ _
    c.movmf_auto_with-a.ensures.answer_keeps_best in
    search (best, rules)

pub returns-clause-labels_first : goal.returns-clause-labels_first
returns-clause-labels_first c =
    let a = c.args in
    let x = c.movmf_auto_with-a.new in
    chosen_first (chosen 0 a.groups.now a.loglik.now a.score.now a.counts.now) _ _ c.give_chosen.ensures _
    (arrays x.labels x.responsibilities x.group_weights x.directions x.concentrations x.logw)
    c.movmf_auto_with-a.ensures.answer_labels_first
