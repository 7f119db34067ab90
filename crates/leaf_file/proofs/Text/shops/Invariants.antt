-- `leaf_file::Text::shops` meets its contract. The loop's invariant: the lines of the first i shops are added. Assumes nothing.
use Prim.Native.Nat.{◌+◌, ◌*◌, ◌≤◌}
use Rattle.leaf_file.specs.Listing.{shop_lines}
use Rattle.leaf_file.specs.Texts.{Grown}
use Rattle.leaf_file.proofs.Text.shops.Given as goal

abbrev pub invariant-loop-i : goal.invariant-loop-i
invariant-loop-i l = Grown (shop_lines l.labels l.i) l.initial.self l.self × (l.self.at ≤ l.initial.self.at + 42 * l.i)
