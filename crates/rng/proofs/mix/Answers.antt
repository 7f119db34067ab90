-- Each product is the definition's modulo 2^64, and each exclusive or is that of the words.
use Rattle.std.proofs.Common.{ℕ, ◌*◌, ◌%◌, ◌^◌, ap, ◌∙◌, rules}
use Rattle.rng.specs.SplitMix.{folded_by, round_of, mix_of}
use Rattle.rng.proofs.Xor.{folded_is}
use Rattle.rng.proofs.mix.Goals as goal

pub returns : goal.returns
unfolding mix_of round_of
returns c =
    let y = c.wrapping_mul_u64-y.ensures in
    let w = c.wrapping_mul_u64-w.ensures in
    folded_is 31 (search rules)
    ∙ ap (folded_by 31)
    (w
    ∙ ap (λ (n : ℕ). n * 0x94D0_49BB_1331_11EB % 2 ^ 64) (folded_is 27 (search rules))
    ∙ ap (round_of 27 0x94D0_49BB_1331_11EB) (y ∙ ap (λ (n : ℕ). n * 0xBF58_476D_1CE4_E5B9 % 2 ^ 64) (folded_is 30 (search rules))))
