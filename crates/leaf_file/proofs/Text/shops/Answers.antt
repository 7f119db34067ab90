-- `leaf_file::Text::shops` meets its contract: with each shop the text grows by its line. Assumes nothing.
use native.Mathlib.Numerals.{add-one}
use native.Mathlib.Omega.{arith}
use Rattle.leaf_file.specs.Listing.{shop_lines}
use Rattle.leaf_file.proofs.Growing.{grown_none, grown_both}
use Rattle.leaf_file.proofs.Text.shops.Goals as goal

pub loop-i-init : goal.loop-i-init
unfolding shop_lines
loop-i-init c = (grown_none c.args.self.now, omega arith)

pub loop-i-preserved : goal.loop-i-preserved
unfolding shop_lines
loop-i-preserved c =
    let l = c.loop-i in
    let v = c.shop.ensures in
    (rw add-one (grown_both l.invariant.0 v.grown), omega (arith, v.upper_bound, l.invariant.1))
