-- A sum modulo 2^64 does not change when a term is first taken modulo 2^64.
use Rattle.std.proofs.Common.{ℕ, ◌+◌, ◌*◌, ◌%◌, ◌^◌, ap, ◌∙◌}
use native.Mathlib.Nat.{add-mod-mod}
use Rattle.rng.specs.SplitMix.{restart_seed_of}
use Rattle.rng.proofs.restart_seed.Goals as goal

pub returns : goal.returns
unfolding restart_seed_of
returns c =
    let a = c.args in
    ap (λ (n : ℕ). (a.seed + n) % 2 ^ 64) c.wrapping_mul_u64.ensures ∙ add-mod-mod a.seed (a.s * 0x9E37_79B9) (2 ^ 64)
