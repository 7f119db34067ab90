-- `auto_choice::score_at` meets its contract: the number of parameters is what the call ensures and below 2^53, and the rest is one term
-- once the constants are computed. Assumes nothing.
use mathlib.Core.Path.{ap}
use Prim.Native.Nat.{ℕ, ◌*◌, ◌≤◌}
use native.Mathlib.Omega.{arith}
use lib.Dec.{le→leb}
use lib.Ieee.{in_float, of_bits, of_int, neg, binary64, add, mul}
use Rattle.float.specs.Arithmetic.{number}
use Rattle.mixture_kappa.specs.Kappas.{parameters_of}
use Rattle.mixture_kappa.specs.declared.Kappa.{Kappa}
use Rattle.mixture_kappa.specs.declared.Kappa.TheVariants.{Free, Shared}
use Rattle.auto_choice.proofs.score_at.Goals as goal

few : (kappa : Kappa) (k d : ℕ) → k ≤ 64 → k * d ≤ 16384 → parameters_of kappa k d ≤ 20000
few Free k d h g = omega arith
few Shared k d h g = omega arith

pub int_to_float-result : goal.int_to_float-result
unfolding in_float
int_to_float-result c =
    let f = c.parameters in
    let a = c.args in
    le→leb f.result 9007199254740992 (omega (arith, f.ensures, few a.kappa a.k a.d c.requires.1 c.requires.2))

pub returns : goal.returns
unfolding of_bits of_int neg
returns c =
    let a = c.args in
    ap (λ (p : ℕ). add binary64 (mul binary64 (neg (number 2)) a.loglik) (mul binary64 (number p) a.ln_total))
    c.parameters.ensures
