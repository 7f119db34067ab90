-- `exponential::series_each` meets its contract.
use Rattle.std.proofs.Common.{rules, ◌≡◌, ◌+◌, ◌-◌, length, sym, ap, ◌∙◌, arith}
use Rattle.std.proofs.lemmas.List.{length-map}
use Rattle.float.specs.Arithmetic.{number}
use Rattle.exponential.specs.Steps.{stepped, summed}
use Rattle.float.proofs.Arrays.{map_is}
use Rattle.exponential.proofs.Several.{series_turn, series_end}
use Rattle.exponential.proofs.series_each.Goals as goal

pub loop-i-preserved : goal.loop-i-preserved
loop-i-preserved g c =
    let l = c.loop-i in
    let k = 13 - l.i in
    let n : length l.s ≡ length c.args.s =
    sym (length-map l.s (summed k)) ∙ ap length l.invariant ∙ length-map c.args.s (summed 13) in
    series_turn (13 - (l.i + 1)) k l.s _ (omega arith)
    (map_is _ _ (λ q x y v k. search rules) _ _ (stepped (number k)) (omega (arith, n)) c.map-s.ensures.items (λ x y q k. search rules))
    ∙ l.invariant

pub returns : goal.returns
returns g c = sym (series_end _ c.loop-i.s (omega arith)) ∙ c.loop-i.invariant
