-- `station::mosterklomp_movmf_with` meets its contract: what the fit says of its labels is said of the numbers that are lent. Assumes
-- nothing.
use Rattle.mixture_outputs.specs.Outputs.{arrays}
use Rattle.border.specs.Answers.{fitted}
use Rattle.border.proofs.Put.{fitted_first}
use Rattle.station.proofs.mosterklomp_movmf_with.Goals as goal

pub returns-clause-labels_first : goal.returns-clause-labels_first
returns-clause-labels_first c =
    let a = c.args in
    let x = c.movmf_with-a.new in
    fitted_first _ (fitted 0 a.groups.now a.loglik.now a.counts.now) _ _
    (arrays x.labels x.responsibilities x.group_weights x.directions x.concentrations x.logw)
    c.give_fitted.ensures c.movmf_with-a.ensures.answer_labels_first
