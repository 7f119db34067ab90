-- `leaf_file::Text::word` meets its contract: the word stands where the copy puts it. Assumes nothing.
use mathlib.Core.Path.{refl}
use Rattle.leaf_file.proofs.Growing.{grown_word}
use Rattle.leaf_file.proofs.Text.word.Goals as goal

pub returns : goal.returns
returns c =
    let a = c.args in
    grown_word a.word.now _ a.self.now _ c.requires c.copy_from_slice.ensures.after refl refl refl
