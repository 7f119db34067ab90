-- The forms of a kind agree: one that is known has the Kappa that both forms name, and any other is refused. By cases on the kind.
-- Assumes nothing.
use mathlib.Core.Path.{◌≡◌, refl, subst}
use mathlib.Core.Bool.{true, false}
use Prim.Native.Nat.{ℕ, zero, suc}
use native.Mathlib.Omega.{arith}
use lib.Dec.{T}
use borrow.Author.Tests.{leb-true, ne_eqb}
use Rattle.std.specs.Prelude.{Ok, Err}
use Rattle.limits.specs.declared.Refusal.TheVariants.{Kappa}
use Rattle.border.specs.Answers.{kappa_of, kind_ok, checked_kappa}

pub known : (kind : ℕ) → kind_ok kind ≡ true → checked_kappa kind ≡ Ok (kappa_of kind)
known zero e = refl
known (suc zero) e = refl
known (suc (suc n)) e = absurd (omega (arith, leb-true (suc (suc n)) 1 e))

pub unknown : (kind : ℕ) → kind_ok kind ≡ false → checked_kappa kind ≡ Err Kappa
unknown zero e = absurd (subst T e tt)
unknown (suc zero) e = absurd (subst T e tt)
unknown (suc (suc n)) e =
    rw (ne_eqb (suc (suc n)) 0 (λ h. omega (arith, h)), ne_eqb (suc (suc n)) 1 (λ h. omega (arith, h))) refl
