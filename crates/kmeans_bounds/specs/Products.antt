-- What `may_skip` answers and promises: a test of the cosines and of the squares of the sines, without roots. No
-- definition of document 01 stands on this file.
use Rattle.std.specs.Prelude.{◌≡◌, Bool, true, false, not, ◌&&◌, ◌||◌, cond, ℕ, Float}
use Rattle.std.specs.Float.{binary64}
use Rattle.std.specs.Float.Ieee.{add, sub, mul, div, neg, lt, le}
use Rattle.float.specs.Arithmetic.{f64, plus_zero, clamp_of}
use Rattle.kmeans_bounds.specs.Shifts.{cosine, squares_of, shifted_by, slack, skips}
use Rattle.kmeans_bounds.specs.declared.Bounds.{Bounds}
use Rattle.kmeans_bounds.specs.declared.Cosines.{Cosines}
use Rattle.kmeans_bounds.specs.declared.Turned.{Turned}

-- c is not above zero, or its square is below a, and so c is at most the root of a
abbrev pub reaches_of : Float → Float → Bool
reaches_of c a = le c plus_zero || lt (mul binary64 c c) a

-- 0.5·(d + (a − e)/d), held to [0, d]
abbrev pub half : Float
half = f64 0x3FE0000000000000

abbrev pub foot_of : Float → Float → Float → Float
foot_of d a e = clamp_of (mul binary64 half (add binary64 d (div binary64 (sub binary64 a e) d))) plus_zero d

-- c and f are at most the roots of a and e, and (x − c) − (y + f) is below the slack
abbrev pub close_by : Float → Float → Float → Float → Float → Float → Bool
close_by x y a e c f = (reaches_of c a && reaches_of f e) && lt (sub binary64 (sub binary64 x c) (add binary64 y f)) slack

-- of the parts of x − y that the foot divides it into
abbrev pub close_of : Float → Float → Float → Float → Bool
close_of x y a e =
    let d = sub binary64 x y in
    close_by x y a e (foot_of d a e) (sub binary64 d (foot_of d a e))

-- the bounds and the turns held to [−1, 1]
abbrev pub cosines_of : Float → Float → Bounds → Cosines
cosines_of own other b =
    record { low = cosine b.low; own = cosine own; high = cosine b.high; other = cosine other }

-- whether one of the shifts needs no root
abbrev pub root_left_out : Cosines → Bool
root_left_out c = lt c.low (neg c.own) || le c.other c.high

-- of the cosines l, u of the bounds and p, q of the turns
abbrev pub may_skip_by : Float → Float → Float → Float → Bool
may_skip_by l p u q =
    cond (lt (sub binary64 (mul binary64 l p) (mul binary64 u q)) slack) false
    (cond (lt l (neg p) || le q u) true
    (not (close_of (mul binary64 l p) (mul binary64 u q) (squares_of l p) (squares_of u q))))

-- whether the shifted bounds could be the slack apart: false only where they cannot
abbrev pub may_skip : Float → Float → Bounds → Bool
may_skip own other b = may_skip_by (cosine b.low) (cosine own) (cosine b.high) (cosine other)

-- the leaf with these bounds is skipped in no round once they are shifted
abbrev pub NeverSkipped : Turned → Bounds → Type 0
NeverSkipped t b = (it : ℕ) → skips it (shifted_by t b) ≡ false
