-- `gamma_table::ln_gamma_half` meets its contract: the table's rule at d. The rule, `table_is`, is one test of all entries of the table
-- that the code holds. antt computes it, in three parts, since it bounds the steps of one declaration. Assumes nothing.
use mathlib.Core.Path.{◌≡◌, refl, ◌∙◌}
use mathlib.Core.Bool.{Bool}
use Prim.Native.Nat.{ℕ, ◌-◌}
use native.Mathlib.Omega.{arith}
use lib.Dec.{T}
use lib.ListN.{get_or}
use lib.Ieee.{Float, nan, binary64, add, sub, mul, div, lt, round, size, of_bits, of_int}
use Rattle.float.specs.Arithmetic.{f64, number}
use Rattle.float.specs.Parts.{units_of}
use Rattle.float.proofs.Computed.{same, same_eq, all_from, all_at, all_joined}
use Rattle.logarithm.specs.Logarithm.{ln_of, ln_by, ln_at, ln_from, exponent_of, fraction_of}
use Rattle.gamma.specs.Gamma.{half, lanczos, lanczos_terms, lanczos_from, ln_gamma_of, ln_gamma_half}
use Rattle.gamma.proofs.Tau.{ln_tau}
use Rattle.gamma_table.specs.Table.{GammaTable}
use Rattle.gamma_table.specs.declared.entries.TheConstants.{LN_GAMMA}
use Rattle.gamma_table.proofs.ln_gamma_half.Goals as goal

-- ---- the test of an entry
-- ln_gamma of d/2, with the constant in the place of the logarithm of TAU
quick : ℕ → Float
quick d =
    let x = sub binary64 (div binary64 (number d) (number 2)) (number 1) in
    let t = add binary64 (add binary64 x (number 7)) half in
    let start = mul binary64 half (f64 0x3FFD67F1C864BEB4) in
    add binary64 (sub binary64 (add binary64 start (mul binary64 (add binary64 x half) (ln_of t))) t)
    (ln_of (lanczos_from x lanczos 1 lanczos_terms))

quick_is : (d : ℕ) → quick d ≡ ln_gamma_half d
unfolding quick ln_gamma_of
quick_is d = rw ln_tau

right : ℕ → Bool
right d = same (get_or LN_GAMMA (d - 1) nan) (quick d)

low : T (all_from right 1 86)
unfolding right quick ln_of ln_by ln_at ln_from exponent_of fraction_of units_of add sub mul div lt round size of_bits of_int
low = tt

middle : T (all_from right 87 86)
unfolding right quick ln_of ln_by ln_at ln_from exponent_of fraction_of units_of add sub mul div lt round size of_bits of_int
middle = tt

high : T (all_from right 173 84)
unfolding right quick ln_of ln_by ln_at ln_from exponent_of fraction_of units_of add sub mul div lt round size of_bits of_int
high = tt

tested : T (all_from right 1 256)
tested = all_joined right 1 86 170 low (all_joined right 87 86 84 middle high)

table_is : GammaTable LN_GAMMA
unfolding right
table_is =
    record {
      values = refl;
      entry = λ d l m. same_eq (get_or LN_GAMMA (d - 1) nan) (quick d) (all_at right 1 256 d tested l (omega arith)) ∙ quick_is d;
    }

pub returns : goal.returns
returns c = table_is.entry c.args.d c.requires.0 c.requires.1
