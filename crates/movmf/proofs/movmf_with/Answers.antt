-- `movmf::movmf_with` meets its contract: the arrays that it lends come back as the fit leaves them. Assumes nothing.
use borrow.Author.Rules.{rules}
use Rattle.mixture_outputs.specs.Lent.{outputs_of}
use Rattle.movmf.proofs.Outcomes.{first_of}
use Rattle.movmf.proofs.movmf_with.Goals as goal

pub returns-clause-answer_labels_first : goal.returns-clause-answer_labels_first
returns-clause-answer_labels_first c =
    first_of _ _ (outputs_of c.fit.new.o) _ _ c.fit.ensures.labels_first (search rules) (search rules)
