-- The specification's exclusive or of the low digits is the machine's of the whole words. Assumes nothing.
use Rattle.std.proofs.Common.{◌≡◌, ℕ, ◌/◌, ◌^◌, ◌<◌, sym, ap₂}
use Rattle.std.proofs.Common.{lt_of_le_of_lt, mod-eq_of_lt}
use lib.Pow.{shr_le}
use lib.Bits.{bit_xor}
use Rattle.rng.specs.SplitMix.{xor, folded_by}

pub xor_is : (k a b : ℕ) → a < 2 ^ k → b < 2 ^ k → xor k a b ≡ bit_xor a b
unfolding xor
xor_is k a b p q = ap₂ bit_xor (mod-eq_of_lt p) (mod-eq_of_lt q)

pub folded_is : (k : ℕ) {z : ℕ} → z < 2 ^ 64 → bit_xor z (z / 2 ^ k) ≡ folded_by k z
unfolding folded_by
folded_is k {z} h = sym (xor_is 64 z (z / 2 ^ k) h (lt_of_le_of_lt (shr_le z k) h))
