-- `leaf_file::Text::groups` meets its contract: three lines and the shops, one after the other. Assumes nothing.
use Rattle.leaf_file.proofs.Growing.{grown_both}
use Rattle.leaf_file.proofs.Text.groups.Goals as goal

pub returns : goal.returns
returns c =
    grown_both c.number.ensures.grown
    (grown_both c.number-2.ensures.grown (grown_both c.number-3.ensures.grown c.shops.ensures))
