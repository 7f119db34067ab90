-- `exponential::exps` meets its contract: all below −745, all from −708 to 709, and else each by itself. Assumes nothing.
use Rattle.std.proofs.Common.{rules, refl}
use lib.Ieee.{of_bits, of_int}
use Rattle.exponential.specs.Exponential.{exp_of}
use Rattle.float.proofs.Arrays.{map_is}
use Rattle.exponential.proofs.Several.{all_low}
use Rattle.exponential.proofs.exps.Goals as goal

pub returns-then-all : goal.returns-then-all
unfolding of_bits of_int
returns-then-all g c = all_low c.args.x g.row.N (search rules) (search rules)

pub returns : goal.returns
returns g c =
    map_is _ _ (λ q x y v k. refl) _ _ exp_of (search rules) c.map.ensures.items (λ x y q k. search rules)
