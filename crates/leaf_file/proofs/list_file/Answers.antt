-- `leaf_file::list_file` meets its contract: the text of the answer, with the labels of as many shops as the file holds. Assumes nothing.
use mathlib.Core.Path.{refl}
use Rattle.leaf_file.proofs.Listings.{list_end}
use Rattle.leaf_file.proofs.list_file.Goals as goal

pub returns-clause-value : goal.returns-clause-value
returns-clause-value c =
    let m = c.shops-m in
    list_end c.args.bytes.now _ m.result _ c.answer.new.self c.fit_file-r.ensures.fact m.ensures.1 refl c.answer.ensures
