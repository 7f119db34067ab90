-- `leaf_file::fit_file` meets its contract: a file that is not refused holds the leaves that its header says. Assumes nothing.
use mathlib.Core.Path.{sym, ◌∙◌}
use Rattle.leaf_file.proofs.Bytes.{header_sized}
use Rattle.leaf_file.proofs.fit_file.Goals as goal

pub fit_sized-requires : goal.fit_sized-requires
fit_sized-requires c = (header_sized c.args.bytes.now _ (sym c.header_of.ensures ∙ c.in_ok-h.was)).1
