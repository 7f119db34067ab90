-- `exponential::power` meets its contract: 2^52 + b less 2^52 + 1023 is n, and its digits are b. Assumes nothing.
use mathlib.Core.Path.{ap, ◌∙◌}
use mathlib.Core.Bool.{false}
use lib.Ieee.{fin, of_bits, of_int}
use Rattle.float.specs.Parts.{power_of}
use Rattle.exponential.proofs.Floor.{turns_span, lifted_number, lifted_whole, lifted_field, field_within}
use Rattle.exponential.proofs.power.Goals as goal

pub lifted-u-requires : goal.lifted-u-requires
unfolding of_bits of_int
lifted-u-requires c = turns_span c.args.x c.requires

pub float_to_bits-b : goal.float_to_bits-b
float_to_bits-b c = lifted_number _ c.lifted-u.result c.lifted-u.ensures

pub pow2-requires : goal.pow2-requires
pow2-requires c = field_within _ c.lifted-u.result c.lifted-u.ensures

pub returns : goal.returns
unfolding of_bits of_int
returns c =
    let l = c.lifted-u in
    record {
      whole = lifted_whole _ l.result l.ensures;
      power = c.pow2.ensures ∙ ap power_of (lifted_field _ l.result l.ensures) ∙ ap (fin false 1) l.ensures.field.value;
    }
