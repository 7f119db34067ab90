-- `leaf_file::Text::number` meets its contract: the word, the number and the end of the line. Assumes nothing.
use Rattle.leaf_file.proofs.Growing.{grown_both}
use Rattle.leaf_file.proofs.Text.number.Goals as goal

pub returns-clause-grown : goal.returns-clause-grown
returns-clause-grown c = grown_both c.word.ensures (grown_both c.decimal.ensures.grown c.word-2.ensures)
