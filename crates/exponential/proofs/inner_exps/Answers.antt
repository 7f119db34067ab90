-- `exponential::inner_exps` meets its contract: each series begins at its number, and its sum is taken times the power. Assumes nothing.
use Rattle.std.proofs.Common.{rules, map, refl, ap, ◌∙◌, arith}
use Rattle.exponential.specs.Steps.{begun, summed}
use Rattle.float.proofs.Arrays.{callable_on, map_is}
use Rattle.exponential.proofs.Several.{ended, all_inner}
use Rattle.exponential.proofs.inner_exps.Goals as goal

pub map-requires : goal.map-requires
map-requires g c =
    (omega arith, (omega arith, (search rules, callable_on _ _ _ tt (λ q x v k. refl) c.requires.inside)))

pub returns : goal.returns
returns g c =
    map_is _ _ (λ q x y v k. search rules) _ _ ended (search rules) c.map-2.ensures.items (λ x y q k. search rules)
    ∙ ap (map ended)
    (c.series_each-s.ensures
    ∙ ap (map (summed 13)) (map_is _ _ (λ q x y v k. refl) _ _ begun (search rules) c.map.ensures.items (λ x y q k. search rules)))
    ∙ all_inner c.args.x c.requires.inside
