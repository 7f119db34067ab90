-- `kmeans_seeding::put_chances` meets its contract: `put` writes the products, which are the chances. Assumes nothing.
use mathlib.Core.Path.{◌∙◌}
use lib.ListN.{length, get_or}
use lib.Ieee.{nan, binary64, mul}
use borrow.Author.Rules.{rules}
use Rattle.kmeans_seeding.proofs.Seeds.{chances_by}
use Rattle.kmeans_seeding.proofs.put_chances.Goals as goal

pub returns : goal.returns
returns c =
    let ws = c.args.weights.now in
    let xs = c.args.distances.now in
    c.put.ensures (λ i. mul binary64 (get_or ws i nan) (get_or xs i nan)) (λ i x h e. search rules)
    ∙ chances_by ws xs (length c.args.to.now) c.requires.0 c.requires.1
