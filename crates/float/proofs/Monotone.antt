-- A rounded sum and a rounded difference keep the order, for every sign, infinities included, where neither is a NaN; so a value less one that is not negative
-- is no greater, and a value and such a one no smaller. A rounded fraction is not negative, and products of two within ±1 lie there too. Assumes nothing.
use mathlib.Core.Path.{◌≡◌, refl, sym, ap, ◌∙◌, subst}
use mathlib.Core.Logic.{⊎_elim}
use Prim.Native.Nat.{ℕ, zero, suc, ◌+◌, ◌-◌, ◌*◌, ◌^◌, ◌≤◌, ◌<◌, zero-le}
use native.Mathlib.Nat.{le_refl, not-le_of_lt, mul_comm, mul_assoc, mul_left_comm, add-mul, mul-pos, mul-le-mul_right, add_comm, zero-mul}
use native.Mathlib.Nat.{zero-lt-suc}
use native.Mathlib.Omega.{arith}
use mathlib.Core.Bool.{Bool, true, false, not, cond, true≢false}
use lib.Dec.{T, not_T, ltb, ltb→lt, nltb→le, lit<, lit≤}
use lib.Ieee.{Float, nan, inf, fin, Format, binary64, prec, emax, low, up, down, below, odd, units, round, neg, sum, add, sub, mul, lt, eq, le, of_int, is_nan, fits}
use lib.IntN.{ℤ, pos}
use lib.Ieee.Fits.{round_is, down_pos}
use lib.Ieee.Exact.{HasValue}
use lib.Ieee.Order.{round_mono, le_of_values, kept, drop}
use lib.Ieee.Scale.{finite}
use Rattle.float.specs.Arithmetic.{number, plus_zero, minus_zero, clamp_of}
use Rattle.float.proofs.Order.{plus, less, over, is_below, lt_or_ge, le_of_nlt, nlt_of_le, le_trans, no_nan}
use Rattle.float.proofs.Bound.{Signed, round_signed, round_within, held_whole, Within}
use Rattle.float.proofs.Interval.{In}
use Rattle.float.proofs.Ranges.{mul_within}
use Rattle.float.proofs.Units.{held_own}
use Rattle.float.proofs.ClampOf.{clamp_nan, clamp_in}

-- ---- the other sign turns the order round
below_turned : (s t : Bool) (a b : ℕ) → T (below (not s) a (not t) b) → T (below t b s a)
below_turned false false a b h = h
below_turned false true a b h = subst (λ (z : ℕ). T (ltb 0 z)) (add_comm a b) h
below_turned true false a b h = absurd h
below_turned true true a b h = h

lt_turned : (x y : Float) → T (lt (neg x) (neg y)) → T (lt y x)
unfolding lt neg
lt_turned nan y h = absurd h
lt_turned (inf s) nan h = absurd h
lt_turned (inf true) (inf t) h = absurd h
lt_turned (inf false) (inf true) h = tt
lt_turned (inf false) (inf false) h = absurd h
lt_turned (inf s) (fin t n d) h = h
lt_turned (fin s m e) nan h = absurd h
lt_turned (fin s m e) (inf true) h = tt
lt_turned (fin s m e) (inf false) h = absurd h
lt_turned (fin s m e) (fin t n d) h = below_turned s t (m * up e * down d) (n * up d * down e) h

neg_number : (x : Float) → T (not (is_nan x)) → T (not (is_nan (neg x)))
unfolding neg is_nan
neg_number nan g = g
neg_number (inf s) g = tt
neg_number (fin s m e) g = tt

pub le_neg : (x y : Float) → T (le x y) → T (le (neg y) (neg x))
le_neg x y h =
    let g = no_nan x y h in
    le_of_nlt (neg x) (neg y) (neg_number x g.0) (neg_number y g.1) (not_T (lt (neg x) (neg y)) (λ k. nlt_of_le y x h (lt_turned x y k)))

units_neg : (f : Format) (q k : ℕ) → units f true q k ≡ neg (units f false q k)
unfolding units odd neg
units_neg f q k = go (ltb (q * 2 ^ k) (2 ^ (low f + suc (emax f)))) q
  where
    go : (b : Bool) (q : ℕ) → cond b (odd (suc (prec f)) true q k (low f)) (inf true) ≡ neg (cond b (odd (suc (prec f)) false q k (low f)) (inf false))
    go true zero = refl
    go true (suc q) = refl
    go false q = refl

round_neg : (f : Format) (a c : ℕ) → round f true a c ≡ neg (round f false a c)
round_neg f a c = round_is f true a c ∙ units_neg f (kept (prec f) (a * 2 ^ low f) c) (drop (prec f) (a * 2 ^ low f) c) ∙ ap neg (sym (round_is f false a c))

-- ---- two rounded fractions of any sign
signs : (x y : Float) → Signed true x → Signed false y → T (le x y)
unfolding is_nan lt
signs nan y h k = absurd h
signs (inf false) y h k = absurd (true≢false (sym h))
signs (inf true) nan h k = absurd k
signs (inf true) (inf true) h k = absurd (true≢false k)
signs (inf true) (inf false) h k = le_of_nlt (inf false) (inf true) tt tt tt
signs (inf true) (fin true n d) h k = absurd (true≢false k)
signs (inf true) (fin false n d) h k = le_of_nlt (fin false n d) (inf true) tt tt tt
signs (fin false m e) y h k = absurd (true≢false (sym h))
signs (fin true m e) nan h k = absurd k
signs (fin true m e) (inf true) h k = absurd (true≢false k)
signs (fin true m e) (inf false) h k = le_of_nlt (inf false) (fin true m e) tt tt tt
signs (fin true m e) (fin true n d) h k = absurd (true≢false k)
signs (fin true m e) (fin false n d) h k = le_of_nlt (fin false n d) (fin true m e) tt tt tt

-- ±0 is level with ±0
pub zeros : (x y : Float) → Within 0 1 x → Within 0 1 y → T (le x y)
unfolding is_nan lt
zeros nan y h k = absurd h
zeros (inf s) y h k = absurd h
zeros (fin s m e) nan h k = absurd k
zeros (fin s m e) (inf t) h k = absurd k
zeros (fin s m e) (fin t n d) h k =
    le_of_nlt (fin t n d) (fin s m e) tt tt (subst (λ (z : ℕ). T (not (below t (z * down e) s (m * up e * down d)))) (sym (none (n * up d) (down d) k)) (subst (λ (z : ℕ). T (not (below t (0 * down e) s (z * down d)))) (sym (none (m * up e) (down e) h)) (never t s (down e) (down d))))
  where
    none : (a b : ℕ) → a * 1 ≤ 0 * b → a ≡ 0
    none a b h = omega arith

    never : (s t : Bool) (a b : ℕ) → T (not (below s (0 * a) t (0 * b)))
    never false false a b = not_T (ltb (0 * a) (0 * b)) (λ h. let l = ltb→lt (0 * a) (0 * b) h in absurd (omega arith))
    never false true a b = tt
    never true false a b = not_T (ltb 0 (0 * a + 0 * b)) (λ h. let l = ltb→lt 0 (0 * a + 0 * b) h in absurd (omega arith))
    never true true a b = not_T (ltb (0 * b) (0 * a)) (λ h. let l = ltb→lt (0 * b) (0 * a) h in absurd (omega arith))

none_of : (a d : ℕ) → 0 < d → a * d ≡ 0 → a ≡ 0
none_of zero d D h = refl
none_of (suc a) d D h = let p = mul-pos (zero-lt-suc a) D in absurd (omega arith)

-- ±a / c ≤ ±b / d
pub round_signed_mono : (f : Format) (s t : Bool) (a b c d : ℕ) → 0 < c → 0 < d → over (plus t b) (less t b) d (plus s a) (less s a) c → T (le (round f s a c) (round f t b d))
round_signed_mono f false false a b c d C D h = round_mono f a c b d C D (omega arith)
round_signed_mono f true false a b c d C D h = signs (round f true a c) (round f false b d) (round_signed f true a c) (round_signed f false b d)
round_signed_mono f false true a b c d C D h =
    let p : a ≡ 0 = none_of a d D (omega arith) in
    let q : b ≡ 0 = none_of b c C (omega arith) in
    zeros (round f false a c) (round f true b d)
    (round_within f false a c 0 1 C (lit< tt) (held_whole f 0 zero-le) (omega arith))
    (round_within f true b d 0 1 D (lit< tt) (held_whole f 0 zero-le) (omega arith))
round_signed_mono f true true a b c d C D h =
    subst (λ (z : Float). T (le z (round f true b d))) (sym (round_neg f a c))
    (subst (λ (z : Float). T (le (neg (round f false a c)) z)) (sym (round_neg f b d))
    (le_neg (round f false b d) (round f false a c) (round_mono f b d a c D C (omega arith))))

-- x is (p - n) / c, rounded
record Rounded (f : Format) (p n c : ℕ) (x : Float) : Type 0 where
  pub sign : Bool
  pub size : ℕ
  pub value : plus sign size + n ≡ p + less sign size
  pub is : x ≡ round f sign size c

rounded_mono : (f : Format) (p n c p' n' d : ℕ) (x y : Float) → 0 < c → 0 < d → Rounded f p n c x → Rounded f p' n' d y → over p' n' d p n c → T (le x y)
rounded_mono f p n c p' n' d x y C D r q h =
    let u : plus r.sign r.size * d + n * d ≡ p * d + less r.sign r.size * d = simp add-mul at (ap (λ (z : ℕ). z * d) r.value) in
    let v : plus q.sign q.size * c + n' * c ≡ p' * c + less q.sign q.size * c = simp add-mul at (ap (λ (z : ℕ). z * c) q.value) in
    subst (λ (z : Float). T (le z y)) (sym r.is)
    (subst (λ (z : Float). T (le (round f r.sign r.size c) z)) (sym q.is)
    (round_signed_mono f r.sign q.sign r.size q.size c d C D (omega arith)))

sum_rounded : (f : Format) (s : Bool) (a : ℕ) (t : Bool) (b c : ℕ) → Rounded f (plus s a + plus t b) (less s a + less t b) c (sum f s a t b c)
unfolding sum
sum_rounded f false a false b c = record { sign = false; size = a + b; value = omega arith; is = refl }
sum_rounded f true a true b c = record { sign = true; size = a + b; value = omega arith; is = refl }
sum_rounded f false a true b c = go (ltb a b) (ltb→lt a b) (nltb→le a b)
  where
    go : (u : Bool) → (T u → a < b) → (T (not u) → b ≤ a) → Rounded f (a + 0) (0 + b) c (cond u (round f true (b - a) c) (round f false (a - b) c))
    go true h k = let l = h tt in record { sign = true; size = b - a; value = omega arith; is = refl }
    go false h k = let l = k tt in record { sign = false; size = a - b; value = omega arith; is = refl }
sum_rounded f true a false b c = go (ltb a b) (ltb→lt a b) (nltb→le a b) (ltb b a) (ltb→lt b a) (nltb→le b a)
  where
    go : (u : Bool) → (T u → a < b) → (T (not u) → b ≤ a) → (w : Bool) → (T w → b < a) → (T (not w) → a ≤ b) → Rounded f (0 + b) (a + 0) c (cond u (round f false (b - a) c) (round f w (a - b) c))
    go true h k w i j = let l = h tt in record { sign = false; size = b - a; value = omega arith; is = refl }
    go false h k true i j = let l = k tt in record { sign = true; size = a - b; value = omega arith; is = refl }
    go false h k false i j = let l = k tt in let m = j tt in record { sign = false; size = a - b; value = omega arith; is = refl }

-- ---- the sum
plus_mul : (s : Bool) (a d : ℕ) → plus s (a * d) ≡ plus s a * d
plus_mul false a d = refl
plus_mul true a d = sym (zero-mul d)

less_mul : (s : Bool) (a d : ℕ) → less s (a * d) ≡ less s a * d
less_mul false a d = sym (zero-mul d)
less_mul true a d = refl

-- the order of two finite values, over whole numbers
cross : (s t : Bool) (m : ℕ) (e : ℤ) (n : ℕ) (d : ℤ) → T (le (fin s m e) (fin t n d)) → over (plus t (n * up d)) (less t (n * up d)) (down d) (plus s (m * up e)) (less s (m * up e)) (down e)
unfolding lt
cross s t m e n d h =
    ⊎_elim (λ l. absurd (nlt_of_le (fin t n d) (fin s m e) h (is_below t s (n * up d) (m * up e) (down d) (down e) l))) (λ l. l)
    (lt_or_ge (plus t (n * up d) * down e + less s (m * up e) * down d) (plus s (m * up e) * down d + less t (n * up d) * down e))

-- x / E ≤ y / E' and a / D ≤ b / D', of differences of whole numbers
both : (x x' E a a' D y y' E' b b' D' : ℕ) → over y y' E' x x' E → over b b' D' a a' D
    → over (y * D' + b * E') (y' * D' + b' * E') (E' * D') (x * D + a * E) (x' * D + a' * E) (E * D)
both x x' E a a' D y y' E' b b' D' h k =
    let p = simp (add-mul, mul_assoc, mul_comm, mul_left_comm) at (mul-le-mul_right (D * D') h) in
    let q = simp (add-mul, mul_assoc, mul_comm, mul_left_comm) at (mul-le-mul_right (E * E') k) in
    simp (add-mul, mul_assoc, mul_comm, mul_left_comm) (omega arith)

fin_mono : (f : Format) (s : Bool) (m : ℕ) (e : ℤ) (t : Bool) (n : ℕ) (d : ℤ) (s' : Bool) (m' : ℕ) (e' : ℤ) (t' : Bool) (n' : ℕ) (d' : ℤ)
    → T (le (fin s m e) (fin s' m' e')) → T (le (fin t n d) (fin t' n' d')) → T (le (add f (fin s m e) (fin t n d)) (add f (fin s' m' e') (fin t' n' d')))
unfolding add
fin_mono f s m e t n d s' m' e' t' n' d' h k =
    rounded_mono f _ _ (down e * down d) _ _ (down e' * down d') _ _ (mul-pos (down_pos e) (down_pos d)) (mul-pos (down_pos e') (down_pos d'))
    (sum_rounded f s (m * up e * down d) t (n * up d * down e) (down e * down d)) (sum_rounded f s' (m' * up e' * down d') t' (n' * up d' * down e') (down e' * down d'))
    (rw (
      plus_mul s (m * up e) (down d),
      plus_mul t (n * up d) (down e),
      less_mul s (m * up e) (down d),
      less_mul t (n * up d) (down e),
      plus_mul s' (m' * up e') (down d'),
      plus_mul t' (n' * up d') (down e'),
      less_mul s' (m' * up e') (down d'),
      less_mul t' (n' * up d') (down e'),
    )
    (both (plus s (m * up e)) (less s (m * up e)) (down e) (plus t (n * up d)) (less t (n * up d)) (down d) (plus s' (m' * up e')) (less s' (m' * up e')) (down e') (plus t' (n' * up d')) (less t' (n' * up d')) (down d')
    (cross s s' m e m' e' h) (cross t t' n d n' d' k)))

least : (z : Float) → T (not (is_nan z)) → T (le (inf true) z)
unfolding is_nan lt
least nan g = absurd g
least (inf true) g = le_of_nlt (inf true) (inf true) tt tt tt
least (inf false) g = le_of_nlt (inf false) (inf true) tt tt tt
least (fin s m e) g = le_of_nlt (fin s m e) (inf true) tt tt tt

pub most : (z : Float) → T (not (is_nan z)) → T (le z (inf false))
unfolding is_nan lt
most nan g = absurd g
most (inf true) g = le_of_nlt (inf false) (inf true) tt tt tt
most (inf false) g = le_of_nlt (inf false) (inf false) tt tt tt
most (fin s m e) g = le_of_nlt (inf false) (fin s m e) tt tt tt

pub add_mono : (f : Format) (x y a b : Float) → T (not (is_nan (add f x a))) → T (not (is_nan (add f y b))) → T (le x y) → T (le a b) → T (le (add f x a) (add f y b))
unfolding add is_nan le lt eq
add_mono f nan y a b g g' h k = absurd h
add_mono f (inf true) y nan b g g' h k = absurd g
add_mono f (inf true) y (inf true) b g g' h k = least (add f y b) g'
add_mono f (inf true) y (inf false) b g g' h k = absurd g
add_mono f (inf true) y (fin t n d) b g g' h k = least (add f y b) g'
add_mono f (inf false) nan a b g g' h k = absurd h
add_mono f (inf false) (inf true) a b g g' h k = absurd h
add_mono f (inf false) (inf false) a nan g g' h k = absurd g'
add_mono f (inf false) (inf false) a (inf true) g g' h k = absurd g'
add_mono f (inf false) (inf false) a (inf false) g g' h k = most (add f (inf false) a) g
add_mono f (inf false) (inf false) a (fin t n d) g g' h k = most (add f (inf false) a) g
add_mono f (inf false) (fin s m e) a b g g' h k = absurd h
add_mono f (fin s m e) nan a b g g' h k = absurd h
add_mono f (fin s m e) (inf true) a b g g' h k = absurd h
add_mono f (fin s m e) (inf false) a nan g g' h k = absurd g'
add_mono f (fin s m e) (inf false) a (inf true) g g' h k = absurd g'
add_mono f (fin s m e) (inf false) a (inf false) g g' h k = most (add f (fin s m e) a) g
add_mono f (fin s m e) (inf false) a (fin t n d) g g' h k = most (add f (fin s m e) a) g
add_mono f (fin s m e) (fin s' m' e') nan b g g' h k = absurd k
add_mono f (fin s m e) (fin s' m' e') (inf true) b g g' h k = least (add f (fin s' m' e') b) g'
add_mono f (fin s m e) (fin s' m' e') (inf false) nan g g' h k = absurd k
add_mono f (fin s m e) (fin s' m' e') (inf false) (inf true) g g' h k = absurd k
add_mono f (fin s m e) (fin s' m' e') (inf false) (inf false) g g' h k = most (inf false) tt
add_mono f (fin s m e) (fin s' m' e') (inf false) (fin t n d) g g' h k = absurd k
add_mono f (fin s m e) (fin s' m' e') (fin t n d) nan g g' h k = absurd k
add_mono f (fin s m e) (fin s' m' e') (fin t n d) (inf true) g g' h k = absurd k
add_mono f (fin s m e) (fin s' m' e') (fin t n d) (inf false) g g' h k = most (add f (fin s m e) (fin t n d)) g
add_mono f (fin s m e) (fin s' m' e') (fin t n d) (fin t' n' d') g g' h k = fin_mono f s m e t n d s' m' e' t' n' d' h k

pub sub_mono : (f : Format) (x y a b : Float) → T (not (is_nan (sub f x a))) → T (not (is_nan (sub f y b))) → T (le x y) → T (le b a) → T (le (sub f x a) (sub f y b))
unfolding sub
sub_mono f x y a b g g' h k = add_mono f x y (neg a) (neg b) g g' h (le_neg b a k)

-- ---- a sum with one that is not negative, and the difference: x itself is held, so that it is its own rounding
pub own : (f : Format) (s : Bool) (m : ℕ) (e : ℤ) → T (fits f (fin s m e)) → T (le (fin s m e) (round f s (m * up e) (down e))) × T (le (round f s (m * up e) (down e)) (fin s m e))
unfolding neg
own f s m e h = go s
  where
    exact : HasValue (round f false (m * up e) (down e)) false (m * up e) (down e)
    exact = held_own f s m e h

    there : T (le (fin false m e) (round f false (m * up e) (down e)))
    there = le_of_values (fin false m e) (round f false (m * up e) (down e)) (m * up e) (down e) (m * up e) (down e) (down_pos e) (down_pos e) (refl, refl) exact (le_refl (m * up e * down e))

    back : T (le (round f false (m * up e) (down e)) (fin false m e))
    back = le_of_values (round f false (m * up e) (down e)) (fin false m e) (m * up e) (down e) (m * up e) (down e) (down_pos e) (down_pos e) exact (refl, refl) (le_refl (m * up e * down e))

    go : (s : Bool) → T (le (fin s m e) (round f s (m * up e) (down e))) × T (le (round f s (m * up e) (down e)) (fin s m e))
    go false = (there, back)
    go true = (
      subst (λ (z : Float). T (le (fin true m e) z)) (sym (round_neg f (m * up e) (down e))) (le_neg (round f false (m * up e) (down e)) (fin false m e) back),
      subst (λ (z : Float). T (le z (fin true m e))) (sym (round_neg f (m * up e) (down e))) (le_neg (fin false m e) (round f false (m * up e) (down e)) there),
    )

own_rounded : (f : Format) (s : Bool) (a c : ℕ) → Rounded f (plus s a) (less s a) c (round f s a c)
own_rounded f s a c = record { sign = s; size = a; value = refl; is = refl }

-- P - L and P' - L', which is not negative
grown : (P L E D P' L' : ℕ) → L' ≤ P' → P * (E * D) + (L * D + L' * E) * E ≤ (P * D + P' * E) * E + L * (E * D)
grown P L E D P' L' h =
    let k = simp (mul_comm, mul_left_comm) at (mul-le-mul_right (E * E) h) in
    simp (add-mul, mul_assoc, mul_comm) (omega arith)

pub add_above : (f : Format) (x r : Float) → T (fits f x) → T (finite x) → T (le plus_zero r) → T (le x (add f x r))
unfolding add
add_above f nan r g t h = absurd t
add_above f (inf s) r g t h = absurd t
add_above f (fin s m e) nan g t h = absurd (unfold le in h)
add_above f (fin s m e) (inf true) g t h = absurd (unfold le in h)
add_above f (fin s m e) (inf false) g t h = most (fin s m e) (unfold is_nan in tt)
add_above f (fin s m e) (fin t' n d) g t h =
    let k = cross false t' 0 (pos 0) n d h in
    le_trans (fin s m e) (round f s (m * up e) (down e)) _ (own f s m e g).0
    (rounded_mono f _ _ (down e) _ _ (down e * down d) _ _ (down_pos e) (mul-pos (down_pos e) (down_pos d))
    (own_rounded f s (m * up e) (down e)) (sum_rounded f s (m * up e * down d) t' (n * up d * down e) (down e * down d))
    (rw (plus_mul s (m * up e) (down d), plus_mul t' (n * up d) (down e), less_mul s (m * up e) (down d), less_mul t' (n * up d) (down e))
    (grown (plus s (m * up e)) (less s (m * up e)) (down e) (down d) (plus t' (n * up d)) (less t' (n * up d)) (omega arith))))

add_below : (f : Format) (x r : Float) → T (fits f x) → T (finite x) → T (le r minus_zero) → T (le (add f x r) x)
unfolding add
add_below f nan r g t h = absurd t
add_below f (inf s) r g t h = absurd t
add_below f (fin s m e) nan g t h = absurd (unfold le in h)
add_below f (fin s m e) (inf true) g t h = least (fin s m e) (unfold is_nan in tt)
add_below f (fin s m e) (inf false) g t h = absurd (unfold le in h)
add_below f (fin s m e) (fin t' n d) g t h =
    let k = cross t' true n d 0 (pos 0) h in
    le_trans _ (round f s (m * up e) (down e)) (fin s m e)
    (rounded_mono f _ _ (down e * down d) _ _ (down e) _ _ (mul-pos (down_pos e) (down_pos d)) (down_pos e)
    (sum_rounded f s (m * up e * down d) t' (n * up d * down e) (down e * down d)) (own_rounded f s (m * up e) (down e))
    (rw (plus_mul s (m * up e) (down d), plus_mul t' (n * up d) (down e), less_mul s (m * up e) (down d), less_mul t' (n * up d) (down e))
    (let j = grown (less s (m * up e)) (plus s (m * up e)) (down e) (down d) (less t' (n * up d)) (plus t' (n * up d)) (omega arith) in omega arith)))
    (own f s m e g).1

pub sub_below : (f : Format) (x r : Float) → T (fits f x) → T (finite x) → T (le plus_zero r) → T (le (sub f x r) x)
unfolding sub neg
sub_below f x r g t h = add_below f x (neg r) g t (le_neg plus_zero r h)

-- ---- what a result that is no NaN says of its operands
pub add_numbers : (f : Format) (x y : Float) → T (not (is_nan (add f x y))) → T (not (is_nan x)) × T (not (is_nan y))
unfolding add is_nan
add_numbers f nan y g = absurd g
add_numbers f (inf s) nan g = absurd g
add_numbers f (inf s) (inf t) g = (tt, tt)
add_numbers f (inf s) (fin t n d) g = (tt, tt)
add_numbers f (fin s m e) nan g = absurd g
add_numbers f (fin s m e) (inf t) g = (tt, tt)
add_numbers f (fin s m e) (fin t n d) g = (tt, tt)

pub sub_numbers : (f : Format) (x y : Float) → T (not (is_nan (sub f x y))) → T (not (is_nan x)) × T (not (is_nan y))
unfolding sub add neg is_nan
sub_numbers f nan y g = absurd g
sub_numbers f (inf s) nan g = absurd g
sub_numbers f (inf s) (inf t) g = (tt, tt)
sub_numbers f (inf s) (fin t n d) g = (tt, tt)
sub_numbers f (fin s m e) nan g = absurd g
sub_numbers f (fin s m e) (inf t) g = (tt, tt)
sub_numbers f (fin s m e) (fin t n d) g = (tt, tt)

pub mul_numbers : (f : Format) (x y : Float) → T (not (is_nan (mul f x y))) → T (not (is_nan x)) × T (not (is_nan y))
unfolding mul is_nan
mul_numbers f nan y g = absurd g
mul_numbers f (inf s) nan g = absurd g
mul_numbers f (inf s) (inf t) g = (tt, tt)
mul_numbers f (inf s) (fin t n d) g = (tt, tt)
mul_numbers f (fin s m e) nan g = absurd g
mul_numbers f (fin s m e) (inf t) g = (tt, tt)
mul_numbers f (fin s m e) (fin t n d) g = (tt, tt)

-- ---- a rounded fraction is not negative
pub round_not_negative : (a c : ℕ) → 0 < c → T (le plus_zero (round binary64 false a c))
round_not_negative a c C = subst (λ (z : Float). T (le z (round binary64 false a c))) at_zero (round_mono binary64 0 1 a c (lit< tt) C (omega arith))
  where
    at_zero : round binary64 false 0 1 ≡ plus_zero
    at_zero = unfold round in refl

-- ---- within ±2^k, and so within ±1
pub power_in : (k : ℕ) (x : Float) → Within (1 * 2 ^ k) 1 x → In (fin true 1 (pos k)) (fin false 1 (pos k)) x
unfolding is_nan lt
power_in k nan h = absurd h
power_in k (inf s) h = absurd h
power_in k (fin true m e) h = (
  le_of_nlt (fin true m e) (fin true 1 (pos k)) tt tt
      (not_T (ltb (1 * 2 ^ k * down e) (m * up e * 1)) (λ q. not-le_of_lt (ltb→lt _ _ q) h)),
  le_of_nlt (fin false 1 (pos k)) (fin true m e) tt tt tt,
)
power_in k (fin false m e) h = (
  le_of_nlt (fin false m e) (fin true 1 (pos k)) tt tt tt,
  le_of_nlt (fin false 1 (pos k)) (fin false m e) tt tt
      (not_T (ltb (1 * 2 ^ k * down e) (m * up e * 1)) (λ q. not-le_of_lt (ltb→lt _ _ q) h)),
)

pub in_power : (k : ℕ) (x : Float) → In (fin true 1 (pos k)) (fin false 1 (pos k)) x → Within (1 * 2 ^ k) 1 x
unfolding lt
in_power k nan h = absurd (unfold le in h.1)
in_power k (inf true) h = absurd (unfold le in h.0)
in_power k (inf false) h = absurd (unfold le in h.1)
in_power k (fin true m e) h =
    nltb→le (1 * 2 ^ k * down e) (m * up e * 1)
    (not_T (ltb (1 * 2 ^ k * down e) (m * up e * 1)) (nlt_of_le (fin true m e) (fin true 1 (pos k)) h.0))
in_power k (fin false m e) h =
    nltb→le (1 * 2 ^ k * down e) (m * up e * 1)
    (not_T (ltb (1 * 2 ^ k * down e) (m * up e * 1)) (nlt_of_le (fin false 1 (pos k)) (fin false m e) h.1))

pub unit_in : (x : Float) → Within 1 1 x → In (neg (number 1)) (number 1) x
unfolding of_int neg
unit_in x h = power_in 0 x h

in_unit : (x : Float) → In (neg (number 1)) (number 1) x → Within 1 1 x
unfolding of_int neg
in_unit x h = in_power 0 x h

-- x held to ±1
pub unit_clamp : (x : Float) → T (not (is_nan (clamp_of x (neg (number 1)) (number 1)))) → Within 1 1 (clamp_of x (neg (number 1)) (number 1))
unit_clamp x g = in_unit (clamp_of x (neg (number 1)) (number 1)) (clamp_in x (neg (number 1)) (number 1) (some x g) ends)
  where
    some : (x : Float) → T (not (is_nan (clamp_of x (neg (number 1)) (number 1)))) → T (not (is_nan x))
    some nan g = subst (λ (z : Float). T (not (is_nan z))) (clamp_nan (neg (number 1)) (number 1)) g
    some (inf s) g = unfold is_nan in tt
    some (fin s m e) g = unfold is_nan in tt

    ends : T (le (neg (number 1)) (number 1))
    ends = unfold le of_int neg in tt

pub unit_mul : (x y : Float) → Within 1 1 x → Within 1 1 y → Within 1 1 (mul binary64 x y)
unit_mul x y h k = mul_within binary64 1 1 1 1 x y (lit< tt) (lit< tt) (held_whole binary64 1 (lit≤ tt)) h k
