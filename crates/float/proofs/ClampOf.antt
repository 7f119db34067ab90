-- The clamp: a NaN passes, and anything else comes to lie within the bounds, where the low one is not above the high one. Assumes nothing.
use mathlib.Core.Path.{◌≡◌, refl}
use mathlib.Core.Bool.{Bool, true, false, not, cond}
use lib.Dec.{T}
use lib.Ieee.{Float, nan, inf, fin, lt, le, is_nan}
use Rattle.float.specs.Arithmetic.{clamp_of}
use Rattle.float.proofs.Order.{le_of_nlt, no_nan}
use Rattle.float.proofs.Tests.{of_false}
use Rattle.float.proofs.Interval.{In, le_refl}

pub clamp_nan : (low high : Float) → clamp_of nan low high ≡ nan
unfolding clamp_of lt
clamp_nan low nan = refl
clamp_nan low (inf s) = refl
clamp_nan low (fin s m e) = refl

pub clamp_in : (x low high : Float) → T (not (is_nan x)) → T (le low high) → In low high (clamp_of x low high)
unfolding clamp_of
clamp_in x low high g h = go (lt x low) refl (lt high x) refl
  where
    go : (a : Bool) → lt x low ≡ a → (b : Bool) → lt high x ≡ b → In low high (cond a low (cond b high x))
    go true p b q = (le_refl low (no_nan low high h).0, h)
    go false p true q = (h, le_refl high (no_nan low high h).1)
    go false p false q = (le_of_nlt x low g (no_nan low high h).0 (of_false (lt x low) p), le_of_nlt high x (no_nan low high h).1 g (of_false (lt high x) q))
