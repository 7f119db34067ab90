-- The shifts of a bound by their cases, over plain values: the clamped bound and drift, and the test between them; and a turn of the
-- loop over the drifts. Assumes nothing.
use mathlib.Core.Path.{◌≡◌, refl}
use mathlib.Core.Bool.{Bool, true, false, ◌||◌, true≢false}
use mathlib.Core.List.{List}
use Prim.Native.Nat.{ℕ, ◌+◌, ◌<◌}
use native.Mathlib.Numerals.{add-one}
use lib.ListN.{length, get_or, drop}
use lib.Seq.{drop-cons}
use lib.Ieee.{Float, nan, binary64, add, sub, mul, neg, lt, le}
use Rattle.kmeans_bounds.specs.Shifts.{cosine, sines_of, shift_lower, shift_upper, slower_of, slowest_from}
use Rattle.pick.specs.declared.Best.{Best}

module _ (x p a b : Float) (held : a ≡ cosine x) (turned : b ≡ cosine p) where
  pub lower_within : (s : Float) → s ≡ sines_of a b → lt a (neg b) ≡ false → sub binary64 (mul binary64 a b) s ≡ shift_lower x p
  unfolding shift_lower
  lower_within s e t = rw (← held, ← turned, t, e)

  pub upper_within : (s : Float) → s ≡ sines_of a b → le b a ≡ false → add binary64 (mul binary64 a b) s ≡ shift_upper x p
  unfolding shift_upper
  upper_within s e t = rw (← held, ← turned, t, e)

pub neither : (p q : Bool) → (p || q) ≡ false → (p ≡ false) × (q ≡ false)
neither true q e = absurd (true≢false e)
neither false q e = (refl, e)

-- the drift of centre c, after those before it
pub slowest_turn : (drift : List Float) (c : ℕ) (b b' : Best) → c < length drift → b' ≡ slower_of b c (get_or drift c nan)
    → slowest_from b' (c + 1) (drop (c + 1) drift) ≡ slowest_from b c (drop c drift)
unfolding slowest_from
slowest_turn drift c b b' h e = rw (e, add-one, drop-cons drift c nan)
