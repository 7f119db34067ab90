-- `leaf_file::Text::shop` meets its contract: index, space, label and the end of the line. Assumes nothing.
use Rattle.leaf_file.proofs.Growing.{grown_both}
use Rattle.leaf_file.proofs.Text.shop.Goals as goal

pub returns-clause-grown : goal.returns-clause-grown
returns-clause-grown c =
    grown_both c.decimal.ensures.grown
    (grown_both c.word.ensures (grown_both c.decimal-2.ensures.grown c.word-2.ensures))
