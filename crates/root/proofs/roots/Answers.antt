-- `root::roots` meets its contract: in step where all the numbers are positive, else each by `root`. Assumes nothing.
use Rattle.std.proofs.Common.{rules, refl}
use Rattle.root.specs.Root.{root_of}
use Rattle.float.proofs.Arrays.{map_is}
use Rattle.root.proofs.roots.Goals as goal

pub returns-else-all : goal.returns-else-all
returns-else-all g c =
    map_is _ _ (λ q x y v k. refl) _ _ root_of (search rules) c.map.ensures.items (λ x y q k. search rules)
