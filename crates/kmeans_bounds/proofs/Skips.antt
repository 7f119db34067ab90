-- A leaf that `may_skip` turns down is not skipped: the shifted bounds are NaN or no further apart than what it compares with the
-- slack, since their roots are NaN, or not negative and at least the parts that they reach, and a rounded sum or difference keeps
-- the order. Assumes nothing.
use mathlib.Core.Path.{◌≡◌, refl, sym, ap₂, subst}
use mathlib.Core.Logic.{◌⊎◌, inl, inr, ⊎_elim}
use mathlib.Core.Bool.{Bool, true, false, not, ◌&&◌, ◌||◌, cond, true≢false}
use Prim.Native.Nat.{ℕ}
use Rattle.std.specs.Prelude.{Some}
use lib.Dec.{T, not_T, ltb}
use lib.Ieee.{Float, binary64, add, sub, mul, div, neg, lt, le, is_nan, fits}
use lib.Ieee.Bits.{is_false}
use lib.Ieee.Fits.{mul-fits, sub-fits, cond-fits, and_l, and_r}
use Rattle.float.specs.Arithmetic.{number, plus_zero, max_of, clamp_of}
use Rattle.root.specs.Root.{root_of}
use Rattle.float.proofs.Bound.{Within}
use Rattle.float.proofs.Ranges.{within_finite}
use Rattle.float.proofs.Order.{nan_below, no_nan, nlt_of_le, le_of_nlt, lt_irrefl, le_trans}
use Rattle.float.proofs.Monotone.{add_mono, sub_mono, sub_below, add_above, add_numbers, sub_numbers, mul_numbers, unit_in, unit_clamp}
use Rattle.float.proofs.Monotone.{unit_mul}
use Rattle.root.proofs.RootValue.{root_not_negative, root_reach}
use borrow.Author.Tests.{not-false}
use Rattle.float.proofs.Tests.{of_true}
use Rattle.kmeans_bounds.specs.Products.{reaches_of, half, foot_of, close_of, may_skip, NeverSkipped}
use Rattle.kmeans_bounds.specs.Shifts.{cosine, squares_of, sines_of, shift_lower, shift_upper, shifted_bounds, slack, skips}
use Rattle.kmeans_bounds.specs.declared.Bounds.{Bounds}
use Rattle.kmeans_bounds.specs.declared.Turned.{Turned}
use Rattle.kmeans_bounds.proofs.Turns.{lower_within, upper_within, neither}

-- the product of two cosines
abbrev pub turned : Float → Float → Float
turned l p = mul binary64 (cosine l) (cosine p)

turned_within : (l p : Float) → T (not (is_nan (turned l p))) → Within 1 1 (turned l p)
turned_within l p g =
    let n = mul_numbers binary64 (cosine l) (cosine p) g in
    unit_mul (cosine l) (cosine p) (unit_clamp l n.0) (unit_clamp p n.1)

sines_not_negative : (a p : Float) → T (not (is_nan (sines_of a p))) → T (le plus_zero (sines_of a p))
sines_not_negative a p g = root_not_negative (squares_of a p) g

lower_below : (l p : Float) → T (not (is_nan (turned l p))) → T (not (is_nan (shift_lower l p))) → T (le (shift_lower l p) (turned l p))
unfolding shift_lower
lower_below l p g = go (lt (cosine l) (neg (cosine p)))
  where
    s : Float
    s = sines_of (cosine l) (cosine p)

    w : Within 1 1 (turned l p)
    w = turned_within l p g

    go : (b : Bool) → T (not (is_nan (cond b (neg (number 1)) (sub binary64 (turned l p) s))))
        → T (le (cond b (neg (number 1)) (sub binary64 (turned l p) s)) (turned l p))
    go true h = (unit_in (turned l p) w).0
    go false h =
        sub_below binary64 (turned l p) s (mul-fits binary64 (cosine l) (cosine p)) (within_finite 1 1 (turned l p) w)
        (sines_not_negative (cosine l) (cosine p) (sub_numbers binary64 (turned l p) s h).1)

upper_above : (u p : Float) → T (not (is_nan (turned u p))) → T (not (is_nan (shift_upper u p))) → T (le (turned u p) (shift_upper u p))
unfolding shift_upper
upper_above u p g = go (le (cosine p) (cosine u))
  where
    s : Float
    s = sines_of (cosine u) (cosine p)

    w : Within 1 1 (turned u p)
    w = turned_within u p g

    go : (b : Bool) → T (not (is_nan (cond b (number 1) (add binary64 (turned u p) s))))
        → T (le (turned u p) (cond b (number 1) (add binary64 (turned u p) s)))
    go true h = (unit_in (turned u p) w).1
    go false h =
        add_above binary64 (turned u p) s (mul-fits binary64 (cosine u) (cosine p)) (within_finite 1 1 (turned u p) w)
        (sines_not_negative (cosine u) (cosine p) (add_numbers binary64 (turned u p) s h).1)

-- over the slack z: by the products alone
apart : (z l p u q : Float) → T (lt (sub binary64 (turned l p) (turned u q)) z)
    → T (le z (sub binary64 (shift_lower l p) (shift_upper u q))) → ⊥
apart z l p u q h k =
    let x = sub binary64 (turned l p) (turned u q) in
    let y = sub binary64 (shift_lower l p) (shift_upper u q) in
    let g : T (not (is_nan x)) = not_T (is_nan x) (λ n. nan_below x z n h) in
    let g' : T (not (is_nan y)) = (no_nan z y k).1 in
    let n = sub_numbers binary64 (turned l p) (turned u q) g in
    let n' = sub_numbers binary64 (shift_lower l p) (shift_upper u q) g' in
    nlt_of_le x z
    (le_trans z y x k
    (sub_mono binary64 (shift_lower l p) (turned l p) (shift_upper u q) (turned u q) g' g (lower_below l p n.0 n'.0)
    (upper_above u q n.1 n'.1)))
    h

-- by parts c and f that the roots of a and e reach
le_self : (x : Float) → T (not (is_nan x)) → T (le x x)
le_self x n = le_of_nlt x x n n (not_T (lt x x) (lt_irrefl x))

parted : (z x y a e c f : Float) → T (fits binary64 a) → T (fits binary64 e) → T (fits binary64 c) → T (fits binary64 f)
    → T (reaches_of c a) → T (reaches_of f e)
    → T (lt (sub binary64 (sub binary64 x c) (add binary64 y f)) z)
    → T (le z (sub binary64 (sub binary64 x (root_of a)) (add binary64 y (root_of e)))) → ⊥
parted z x y a e c f fa fe fc ff rc rf h k =
    let s = sub binary64 x c in
    let t = add binary64 y f in
    let s' = sub binary64 x (root_of a) in
    let t' = add binary64 y (root_of e) in
    let g : T (not (is_nan (sub binary64 s t))) = not_T (is_nan (sub binary64 s t)) (λ n. nan_below (sub binary64 s t) z n h) in
    let g' : T (not (is_nan (sub binary64 s' t'))) = (no_nan z (sub binary64 s' t') k).1 in
    let n = sub_numbers binary64 s t g in
    let n' = sub_numbers binary64 s' t' g' in
    let m = sub_numbers binary64 x (root_of a) n'.0 in
    let o = add_numbers binary64 y (root_of e) n'.1 in
    let low = sub_mono binary64 x x (root_of a) c n'.0 n.0 (le_self x m.0) (root_reach c a fc fa m.1 rc) in
    let high = add_mono binary64 y y f (root_of e) n.1 n'.1 (le_self y o.0) (root_reach f e ff fe o.1 rf) in
    nlt_of_le (sub binary64 s t) z (le_trans z (sub binary64 s' t') (sub binary64 s t) k (sub_mono binary64 s' s t' t g' g low high)) h

-- the format holds what is computed
zero_fits : T (fits binary64 plus_zero)
zero_fits = unfold fits in tt

squares_fit : (a p : Float) → T (fits binary64 (squares_of a p))
unfolding max_of
squares_fit a p =
    let x = sub binary64 (number 1) (mul binary64 a a) in
    let y = sub binary64 (number 1) (mul binary64 p p) in
    let s = mul binary64 x y in
    cond-fits binary64 (is_nan s) plus_zero (cond (lt s plus_zero) plus_zero s) zero_fits
    (cond-fits binary64 (lt s plus_zero) plus_zero s zero_fits (mul-fits binary64 x y))

clamp_fits : (x d : Float) → T (fits binary64 x) → T (fits binary64 d) → T (fits binary64 (clamp_of x plus_zero d))
unfolding clamp_of
clamp_fits x d f g = cond-fits binary64 (lt x plus_zero) plus_zero (cond (lt d x) d x) zero_fits (cond-fits binary64 (lt d x) d x g f)

-- between the two tests that leave a root out
close_apart : (l p u q : Float) → lt (cosine l) (neg (cosine p)) ≡ false → le (cosine q) (cosine u) ≡ false
    → T (close_of (turned l p) (turned u q) (squares_of (cosine l) (cosine p)) (squares_of (cosine u) (cosine q)))
    → T (le slack (sub binary64 (shift_lower l p) (shift_upper u q))) → ⊥
close_apart l p u q i j h k =
    let x = turned l p in
    let y = turned u q in
    let a = squares_of (cosine l) (cosine p) in
    let e = squares_of (cosine u) (cosine q) in
    let d = sub binary64 x y in
    let n = add binary64 d (div binary64 (sub binary64 a e) d) in
    let c = foot_of d a e in
    let f = sub binary64 d c in
    let w = lt (sub binary64 (sub binary64 x c) (add binary64 y f)) slack in
    let r = and_l (reaches_of c a && reaches_of f e) w h in
    let low = lower_within l p (cosine l) (cosine p) refl refl (root_of a) refl i in
    let high = upper_within u q (cosine u) (cosine q) refl refl (root_of e) refl j in
    parted slack x y a e c f (squares_fit (cosine l) (cosine p)) (squares_fit (cosine u) (cosine q))
    (clamp_fits (mul binary64 half n) d (mul-fits binary64 half n) (sub-fits binary64 x y))
    (sub-fits binary64 d c) (and_l (reaches_of c a) (reaches_of f e) r) (and_r (reaches_of c a) (reaches_of f e) r)
    (and_r (reaches_of c a && reaches_of f e) w h)
    (subst (λ (z : Float). T (le slack z)) (ap₂ (sub binary64) (sym low) (sym high)) k)

cannot_skip : (it : ℕ) (b : Bounds) (own other : Float)
    → (T (le slack (sub binary64 (shift_lower b.low own) (shift_upper b.high other))) → ⊥)
    → skips it (shifted_bounds true own other b) ≡ false
cannot_skip it b own other h =
    let d = le slack (sub binary64 (shift_lower b.low own) (shift_upper b.high other)) in
    let s = lt plus_zero b.scale in
    is_false (ltb 0 it && (s && d)) (not_T (ltb 0 it && (s && d)) (λ k. h (and_r s d (and_r (ltb 0 it) (s && d) k))))

tested : (t g k : Bool) → cond t false (cond g true (not k)) ≡ false → (t ≡ true) ⊎ ((g ≡ false) × (k ≡ true))
tested true g k e = inl refl
tested false true k e = absurd (true≢false e)
tested false false k e = inr (refl, not-false k e)

-- a leaf that may_skip turns down is not skipped, in no round
pub no_skip : (b : Bounds) (t : Turned) (other : Float) → t.other ≡ Some other → may_skip t.own other b ≡ false → NeverSkipped t b
no_skip b t other o e it =
    let own = t.own in
    let l = b.low in
    let u = b.high in
    let d = lt (sub binary64 (turned l own) (turned u other)) slack in
    let g = lt (cosine l) (neg (cosine own)) || le (cosine other) (cosine u) in
    let k = close_of (turned l own) (turned u other) (squares_of (cosine l) (cosine own)) (squares_of (cosine u) (cosine other)) in
    rw o (cannot_skip it b own other
    (⊎_elim (λ h. apart slack l own u other (of_true d h))
    (λ h. let n = neither (lt (cosine l) (neg (cosine own))) (le (cosine other) (cosine u)) h.0 in
    close_apart l own u other n.0 n.1 (of_true k h.1))
    (tested d g k e)))
