-- d/2 − 1 + 1 is d/2, for every d from 1 to 256: computed. Assumes nothing.
use mathlib.Core.Path.{◌≡◌}
use Prim.Native.Nat.{ℕ, ◌≤◌}
use native.Mathlib.Omega.{arith}
use lib.Ieee.{Float, binary64, add, sub, div, round, size, of_int}
use Rattle.float.specs.Arithmetic.{number}
use Rattle.float.proofs.Computed.{same, same_eq, all_at}

abbrev halved : ℕ → Float
halved d = div binary64 (number d) (number 2)

abbrev restored : ℕ → Float
restored d = add binary64 (sub binary64 (halved d) (number 1)) (number 1)

pub less_and_more : (d : ℕ) → 1 ≤ d → d ≤ 256 → restored d ≡ halved d
unfolding add sub div round size of_int
less_and_more d l m = same_eq (restored d) (halved d) (all_at (λ (n : ℕ). same (restored n) (halved n)) 1 256 d tt l (omega arith))
