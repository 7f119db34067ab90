-- `kmeans_lloyd::own_dots` meets its contract, by what `dot` ensures of each leaf's row. Assumes nothing.
use lib.Ieee.{nan}
use borrow.Author.Rules.{rules}
use Rattle.kmeans_lloyd.proofs.Arrays.{made_is}
use Rattle.kmeans_lloyd.proofs.own_dots.Goals as goal

pub returns : goal.returns
returns g c = made_is _ _ (λ q i y v k. search rules) _ _ g.row.N nan c.from_fn.ensures.items (λ i y q l k. search rules)
