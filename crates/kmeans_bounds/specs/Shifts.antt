-- Document 01, 'Spherical k-means': the bounds of a leaf, their shifts (Schubert, Lang and Feher), the two smallest
-- drifts and the skip. Definitions only.
use Rattle.std.specs.Prelude.{List, [], ◌∷◌, Bool, true, false, ◌&&◌, cond, Option, None, Some, ℕ, suc, eqb, ltb, Float}
use Rattle.std.specs.Float.{inf, binary64}
use Rattle.std.specs.Float.Ieee.{add, sub, mul, neg, lt, le}
use Rattle.float.specs.Arithmetic.{f64, number, plus_zero, max_of, clamp_of}
use Rattle.root.specs.Root.{root_of}
use Rattle.kmeans_bounds.specs.declared.Bounds.{Bounds}
use Rattle.kmeans_bounds.specs.declared.Turned.{Turned}
use Rattle.pick.specs.Places.{best_with}
use Rattle.pick.specs.declared.Best.{Best}

-- held to [−1, 1]
abbrev pub cosine : Float → Float
cosine x = clamp_of x (neg (number 1)) (number 1)

-- max((1 − a·a)·(1 − p·p), 0), and its root
abbrev pub squares_of : Float → Float → Float
squares_of a p =
    max_of (mul binary64 (sub binary64 (number 1) (mul binary64 a a)) (sub binary64 (number 1) (mul binary64 p p)))
    plus_zero

abbrev pub sines_of : Float → Float → Float
sines_of a p = root_of (squares_of a p)

-- the two shifts of a bound and a drift that are cosines already
abbrev pub lower_by : Float → Float → Float
lower_by l p = cond (lt l (neg p)) (neg (number 1)) (sub binary64 (mul binary64 l p) (sines_of l p))

abbrev pub upper_by : Float → Float → Float
upper_by u p = cond (le p u) (number 1) (add binary64 (mul binary64 u p) (sines_of u p))

-- after clamping: −1 if l < −p, else l·p less the sines
unfoldable pub shift_lower : Float → Float → Float
shift_lower l p = lower_by (cosine l) (cosine p)

-- after clamping: 1 if p ≤ u, else u·p and the sines
unfoldable pub shift_upper : Float → Float → Float
shift_upper u p = upper_by (cosine u) (cosine p)

-- The two smallest drifts: the place of the smallest, it, and the next, from +infinity; of equals the first is the
-- smallest. With drift p of centre c:
abbrev pub slower_of : Best → ℕ → Float → Best
slower_of b c p = best_with lt b c p

-- b, then the drifts of the centres from c on
unfoldable pub slowest_from : Best → ℕ → List Float → Best
slowest_from b c [] = b
slowest_from b c (p ∷ ps) = slowest_from (slower_of b c p) (suc c) ps

abbrev pub slowest_of : List Float → Best
slowest_of drift = slowest_from (record { index = 0; value = inf false; next = inf false }) 0 drift

-- the smallest drift of the centres other than this one
abbrev pub other_than : Best → ℕ → Float
other_than b label = cond (eqb b.index label) b.next b.value

-- A leaf's bounds after its own centre turned by `own` and the others by `other` at most. With one group there is no
-- other, and the upper bound stays.
abbrev pub shifted_bounds : Bool → Float → Float → Bounds → Bounds
shifted_bounds several own other b =
    record {
      scale = b.scale;
      low = shift_lower b.low own;
      high = cond several (shift_upper b.high other) b.high;
    }

-- by turns, which have no other with one group
abbrev pub shifted_if : Float → Option Float → Bounds → Bounds
shifted_if own None b = shifted_bounds false own own b
shifted_if own (Some other) b = shifted_bounds true own other b

abbrev pub shifted_by : Turned → Bounds → Bounds
shifted_by t b = shifted_if t.own t.other b

-- 1e-12
abbrev pub slack : Float
slack = f64 0x3D719799812DEA11

-- a leaf is skipped after the first round if scale > 0 and low − high ≥ the slack
abbrev pub skips : ℕ → Bounds → Bool
skips it b = ltb 0 it && (lt plus_zero b.scale && le slack (sub binary64 b.low b.high))
