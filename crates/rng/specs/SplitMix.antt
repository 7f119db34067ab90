-- Document 01, 'SplitMix64': the published generator over whole numbers, its fraction, and the seeds of the restarts.
-- Definitions only. Everything here computes on numerals.
use Rattle.std.specs.Prelude.{ℕ, ◌+◌, ◌*◌, ◌/◌, ◌%◌, ◌^◌, bit_xor, pos, Float}
use Rattle.std.specs.Float.{binary64}
use Rattle.std.specs.Float.Ieee.{div, of_int}

-- the exclusive or of the k low binary digits of a and b
unfoldable pub xor : ℕ → ℕ → ℕ → ℕ
xor k a b = bit_xor (a % 2 ^ k) (b % 2 ^ k)

-- z ^ (z >> k), of 64-bit words
unfoldable pub folded_by : ℕ → ℕ → ℕ
unfolding xor
folded_by k z = xor 64 z (z / 2 ^ k)

-- the generator's next state
unfoldable pub step_of : ℕ → ℕ
step_of s = (s + 0x9E37_79B9_7F4A_7C15) % 2 ^ 64

-- one round of the output: z ^ (z >> k), times m, modulo 2^64
unfoldable pub round_of : ℕ → ℕ → ℕ → ℕ
unfolding folded_by
round_of k m z = folded_by k z * m % 2 ^ 64

-- the number drawn, from the state moved on
unfoldable pub mix_of : ℕ → ℕ
unfolding folded_by round_of
mix_of z = folded_by 31 (round_of 27 0x94D0_49BB_1331_11EB (round_of 30 0xBF58_476D_1CE4_E5B9 z))

-- the top 53 bits of a word, over 2^53
unfoldable pub unit_of : ℕ → Float
unit_of x = div binary64 (of_int binary64 (pos (x / 2 ^ 11))) (of_int binary64 (pos (2 ^ 53)))

-- the seed of restart s: seed + s·0x9E3779B9, modulo 2^64
unfoldable pub restart_seed_of : ℕ → ℕ → ℕ
restart_seed_of seed s = (seed + s * 0x9E37_79B9) % 2 ^ 64
