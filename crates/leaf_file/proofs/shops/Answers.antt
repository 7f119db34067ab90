-- `leaf_file::shops` meets its contract: what is too large is refused. Assumes nothing.
use mathlib.Core.Path.{sym, ◌∙◌}
use Rattle.leaf_file.proofs.Bytes.{header_sized}
use Rattle.leaf_file.proofs.shops.Goals as goal

pub returns-in-Ok : goal.returns-in-Ok
returns-in-Ok c =
    let h = header_sized c.args.bytes.now _ (sym c.header_of.ensures ∙ c.in-Ok.is) in
    (h.1.leaves, λ z. h.0)
