-- A multiplication by a power of two goes through the float operations, among the normal numbers. `scale j x` is 2 ^ j times x, as data. Assumes nothing.
use mathlib.Core.Path.{◌≡◌, refl, sym, ap, ap₂, ◌∙◌, subst}
use mathlib.Core.Logic.{inl, inr}
use Prim.Native.Nat.{ℕ, zero, suc, ◌+◌, ◌-◌, ◌*◌, ◌/◌, ◌^◌, ◌≤◌, ◌<◌}
use Prim.{yes, no}
use native.Mathlib.Decide.{dec_le}
use native.Mathlib.Nat.{le_trans, le_of_eq, lt_of_lt_of_le, lt_of_le_of_lt, lt_of_not-le, one-mul, zero-mul, mul_comm, mul_assoc, mul_left_comm, mul_right_comm, mul-mul-mul_comm, mul-le-mul_right, mul-le-mul_left, mul-lt-mul_of_pos_right, mul-pos, le-div_iff_mul-le, div-lt_iff_lt-mul, eq-zero-or-pos, add-mul, mul-sub, le_of_mul-le-mul_right, lt_of_mul-lt-mul_right}
use native.Mathlib.Omega.{arith}
use mathlib.Core.Bool.{Bool, true, false, not, ◌&&◌, beq, cond, true≢false}
use borrow.Author.Tests.{le-leb, lt-leb, lt-ltb, le-ltb, ne_eqb}
use lib.IntN.{ℤ, pos, negsuc}
use lib.Dec.{T, ltb, ltb→lt, nltb→le}
use lib.Pow.{pow-add, pow_pos, pow_mono}
use lib.Count.{count_trailing_zeros}
use lib.Ieee.{Float, nan, inf, fin, Format, prec, emax, low, up, down, minus, unlike, size, odd, units, round, sum, add, mul, div, lt, below}
use lib.Ieee.Digits.{size-lt, size-le, size_reaches, minus_val, odd_val}
use lib.Ieee.Fits.{round_is, two, two-le_pos, up_pos, down_pos}
use lib.Ieee.Exact.{HasValue, round_exact}
use lib.Ieee.Nearest.{closest, closest_same}
use lib.Ieee.Order.{drop, kept}
use lib.Ieee.Scale.{round_same, finite, normal_of_fraction}
use Rattle.float.proofs.Pattern.{minus_same}
use Rattle.float.proofs.Rounding.{size_gt}

-- ---- 2 ^ t times a fraction that is 1 at least has t more digits in its whole part
pred_lt : (z : ℕ) → 0 < z → z - 1 < z
pred_lt z h = omega arith

join : (z t x : ℕ) → 0 < z → x ≤ z + t → z - 1 + t < x → x ≡ z + t
join z t x Z a b = omega arith

size_scale : (n c t : ℕ) → 0 < c → 0 < size (n / c) → size (n * 2 ^ t / c) ≡ size (n / c) + t
size_scale n c t C Z =
    let z = size (n / c) in
    let lo : 2 ^ (z - 1) * c ≤ n = (le-div_iff_mul-le C).0 (size_reaches (n / c) (z - 1) (pred_lt z Z)) in
    let hi : n < 2 ^ z * c = (div-lt_iff_lt-mul C).0 (size-lt (n / c)) in
    let lo' : 2 ^ (z - 1 + t) * c ≤ n * 2 ^ t = le_trans (le_of_eq (ap (λ (x : ℕ). x * c) (pow-add 2 (z - 1) t) ∙ mul_right_comm (2 ^ (z - 1)) (2 ^ t) c)) (mul-le-mul_right (2 ^ t) lo) in
    let hi' : n * 2 ^ t < 2 ^ (z + t) * c = lt_of_lt_of_le (mul-lt-mul_of_pos_right hi (pow_pos t)) (le_of_eq (mul_right_comm (2 ^ z) c (2 ^ t) ∙ ap (λ (x : ℕ). x * c) (sym (pow-add 2 z t)))) in
    join z t (size (n * 2 ^ t / c)) Z (size-le (n * 2 ^ t / c) (z + t) ((div-lt_iff_lt-mul C).1 hi')) (size_gt (n * 2 ^ t / c) (z - 1 + t) ((le-div_iff_mul-le C).1 lo'))

more : (z p t x : ℕ) → p ≤ z → x ≡ z + t → x - p ≡ z - p + t
more z p t x h e = omega arith

-- so t more digits are dropped, and the same number is kept
drop_scale : (p n c t : ℕ) → 0 < p → 0 < c → p ≤ size (n / c) → drop p (n * 2 ^ t) c ≡ drop p n c + t
drop_scale p n c t P C N = more (size (n / c)) p t (size (n * 2 ^ t / c)) N (size_scale n c t C (lt_of_lt_of_le P N))

kept_scale : (p n c t : ℕ) → 0 < p → 0 < c → p ≤ size (n / c) → kept p (n * 2 ^ t) c ≡ kept p n c
kept_scale p n c t P C N =
    let k = drop p n c in
    ap (λ (z : ℕ). closest (n * 2 ^ t) (c * 2 ^ z)) (drop_scale p n c t P C N)
    ∙ closest_same (n * 2 ^ t) (c * 2 ^ (k + t)) n (c * 2 ^ k) (mul-pos C (pow_pos (k + t))) (mul-pos C (pow_pos k)) (simp (mul_assoc, mul_comm, mul_left_comm, pow-add))

-- ---- 2 ^ j times x
abbrev pub raised : ℤ → ℕ → ℤ
raised (pos k) j = pos (k + j)
raised (negsuc k) j = minus j (suc k)

-- a zero is written in the one way
abbrev pub shifted : ℕ → ℤ → ℕ → ℤ
shifted zero e j = e
shifted (suc m) e j = raised e j

abbrev pub scale : ℕ → Float → Float
scale j nan = nan
scale j (inf s) = inf s
scale j (fin s m e) = fin s m (shifted m e j)

raised_val : (e : ℤ) (j : ℕ) → up (raised e j) * down e ≡ up e * 2 ^ j * down (raised e j)
raised_val (pos k) j = ap (λ (z : ℕ). z * 1) (pow-add 2 k j)
raised_val (negsuc k) j =
    sym (ap (λ (z : ℕ). z * 2 ^ suc k) (one-mul (up (minus j (suc k))))) ∙ minus_val 1 j (suc k)

pub scale_val : (m : ℕ) (e : ℤ) (j : ℕ) → m * up (shifted m e j) * down e ≡ m * up e * 2 ^ j * down (shifted m e j)
scale_val zero e j = ap (λ (z : ℕ). z * down e) (zero-mul (up e)) ∙ zero-mul (down e) ∙ sym (ap (λ (z : ℕ). z * 2 ^ j * down e) (zero-mul (up e)) ∙ ap (λ (z : ℕ). z * down e) (zero-mul (2 ^ j)) ∙ zero-mul (down e))
scale_val (suc m) e j =
    mul_assoc (suc m) (up (raised e j)) (down e) ∙ ap (λ (z : ℕ). suc m * z) (raised_val e j)
    ∙ simp (mul_assoc)

-- ---- a power of two through `odd`, `units` and `round`
raised_minus : (a l j : ℕ) → raised (minus a l) j ≡ minus (a + j) l
raised_minus a l j =
    elim (dec_le l a) [
      | no n ↦
          let h : a < l = lt_of_not-le n in
          rw (lt-leb l a h) (minus_same j (suc (l - suc a)) (a + j) l (omega arith))
      | yes h ↦
          let k : l ≤ a + j = omega arith in
          rw (le-leb l a h, le-leb l (a + j) k) (ap pos (omega arith))
    ]

at_pos : (s : Bool) (m : ℕ) (e e' : ℤ) (j : ℕ) → 0 < m → raised e j ≡ e' → fin s m e' ≡ scale j (fin s m e)
at_pos s zero e e' j p h = absurd (none p)
  where
    none : 0 < 0 → ⊥
    none l = omega arith
at_pos s (suc m) e e' j p h = ap (fin s (suc m)) (sym h)

odd_scale : (d : ℕ) (s : Bool) (q k l j : ℕ) → odd d s q (k + j) l ≡ scale j (odd d s q k l)
unfolding odd
odd_scale d s zero k l j = refl
odd_scale d s (suc q) k l j =
    let t = count_trailing_zeros d (suc q) in
    let m = suc q / 2 ^ t in
    let h : k + j + t ≡ k + t + j = omega arith in
    at_pos s m (minus (k + t) l) (minus (k + j + t) l) j
    (above m (up (minus (k + t) l)) (2 ^ l) (suc q * 2 ^ k) (down (minus (k + t) l)) (odd_val d s (suc q) k l) (mul-pos (mul-pos {m = suc q} (omega arith) (pow_pos k)) (down_pos (minus (k + t) l))))
    (raised_minus (k + t) l j ∙ ap (λ (z : ℕ). minus z l) (sym h))
  where
    above : (m u w a d : ℕ) → m * u * w ≡ a * d → 0 < a * d → 0 < m
    above zero u w a d e p = absurd (clash (a * d) p (sym e ∙ ap (λ (z : ℕ). z * w) (zero-mul u) ∙ zero-mul w))
      where
        clash : (x : ℕ) → 0 < x → x ≡ 0 → ⊥
        clash x p e = omega arith
    above (suc m) u w a d e p = omega arith

units_scale : (f : Format) (s : Bool) (q k j : ℕ) → T (finite (units f s q (k + j))) → units f s q (k + j) ≡ scale j (units f s q k)
unfolding units
units_scale f s q k j = go (ltb (q * 2 ^ (k + j)) ov) (ltb (q * 2 ^ k) ov) (ltb→lt (q * 2 ^ (k + j)) ov) (nltb→le (q * 2 ^ k) ov)
  where
    ov : ℕ
    ov = 2 ^ (low f + suc (emax f))

    less : q * 2 ^ k ≤ q * 2 ^ (k + j)
    less = mul-le-mul_left q (pow_mono (omega arith))

    clash : (a b c : ℕ) → a ≤ b → b < c → c ≤ a → ⊥
    clash a b c x y z = omega arith

    go : (b b' : Bool) → (T b → q * 2 ^ (k + j) < ov) → (T (not b') → ov ≤ q * 2 ^ k) → T (finite (cond b (odd (suc (prec f)) s q (k + j) (low f)) (inf s)))
        → cond b (odd (suc (prec f)) s q (k + j) (low f)) (inf s) ≡ scale j (cond b' (odd (suc (prec f)) s q k (low f)) (inf s))
    go true true h g t = odd_scale (suc (prec f)) s q k (low f) j
    go true false h g t = absurd (clash (q * 2 ^ k) (q * 2 ^ (k + j)) ov less (h tt) (g tt))
    go false b' h g t = absurd t

-- `prec f ≤ size (a * 2 ^ low f / c)` says that a / c lies among the normal numbers
pub round_scale : (f : Format) (s : Bool) (a c j : ℕ) → 0 < c → prec f ≤ size (a * 2 ^ low f / c) → T (finite (round f s (a * 2 ^ j) c)) → round f s (a * 2 ^ j) c ≡ scale j (round f s a c)
round_scale f s a c j C N t =
    let p = prec f in
    let P : 0 < p = two-le_pos p (two f) in
    let n = a * 2 ^ low f in
    let is : round f s (a * 2 ^ j) c ≡ units f s (kept p n c) (drop p n c + j) =
    round_is f s (a * 2 ^ j) c
    ∙ ap (λ (z : ℕ). units f s (kept p z c) (drop p z c)) (mul_right_comm a (2 ^ j) (2 ^ low f))
    ∙ ap₂ (units f s) (kept_scale p n c j P C N) (drop_scale p n c j P C N) in
    is ∙ units_scale f s (kept p n c) (drop p n c) j (subst (λ (z : Float). T (finite z)) is t) ∙ ap (scale j) (sym (round_is f s a c))

-- ---- where it cannot fall among the subnormal numbers: a / c is a whole multiple of 2 ^ -g
pub record Multiple (a c g : ℕ) : Type 0 where
  pub times : ℕ
  pub is : a * 2 ^ g ≡ times * c

-- finite, and a whole multiple of 2 ^ -g
abbrev pub Grained : ℕ → Float → Type 0
Grained g nan = ⊥
Grained g (inf s) = ⊥
Grained g (fin s m e) = Multiple (m * up e) (down e) g

pub multiple_mul : (a c b d g h : ℕ) → Multiple a c g → Multiple b d h → Multiple (a * b) (c * d) (g + h)
multiple_mul a c b d g h x y = record {
  times = x.times * y.times;
  is = ap (λ (z : ℕ). a * b * z) (pow-add 2 g h) ∙ mul-mul-mul_comm a b (2 ^ g) (2 ^ h) ∙ ap₂ (λ (u v : ℕ). u * v) x.is y.is ∙ mul-mul-mul_comm x.times c y.times d;
}

-- both over the same c
pub multiple_add : (a b c g : ℕ) → Multiple a c g → Multiple b c g → Multiple (a + b) c g
multiple_add a b c g x y = record {
  times = x.times + y.times;
  is = add-mul a b (2 ^ g) ∙ ap₂ (λ (u v : ℕ). u + v) x.is y.is ∙ sym (add-mul x.times y.times c);
}

sub_mul' : (a b k : ℕ) → (a - b) * k ≡ a * k - b * k
sub_mul' a b k = mul_comm (a - b) k ∙ mul-sub k a b ∙ ap₂ (λ (u v : ℕ). u - v) (mul_comm k a) (mul_comm k b)

pub multiple_sub : (a b c g : ℕ) → Multiple a c g → Multiple b c g → Multiple (a - b) c g
multiple_sub a b c g x y = record {
  times = x.times - y.times;
  is = sub_mul' a b (2 ^ g) ∙ ap₂ (λ (u v : ℕ). u - v) x.is y.is ∙ sym (sub_mul' x.times y.times c);
}

pub multiple_wider : (a c d g : ℕ) → Multiple a c g → Multiple (a * d) (c * d) g
multiple_wider a c d g x = record { times = x.times; is = mul_right_comm a d (2 ^ g) ∙ ap (λ (z : ℕ). z * d) x.is ∙ mul_assoc x.times c d }

zero_scale : (v : Float) (s : Bool) (c j : ℕ) → 0 < c → HasValue v s 0 c → v ≡ scale j v
zero_scale nan s c j C h = refl
zero_scale (inf t) s c j C h = refl
zero_scale (fin t zero e) s c j C h = refl
zero_scale (fin t (suc m) e) s c j C h = absurd (clash (suc m * up e * c) (mul-pos (mul-pos {m = suc m} (omega arith) (up_pos e)) C) (h.1 ∙ zero-mul (down e)))
  where
    clash : (x : ℕ) → 0 < x → x ≡ 0 → ⊥
    clash x p e = omega arith

some_times : (q c a : ℕ) → 0 < a → a ≡ q * c → c ≤ a
some_times zero c a p e = absurd (clash a p (e ∙ zero-mul c))
  where
    clash : (x : ℕ) → 0 < x → x ≡ 0 → ⊥
    clash x p e = omega arith
some_times (suc q) c a p e = le_trans (le_of_eq (sym (one-mul c))) (le_trans (mul-le-mul_right c (one_le q)) (le_of_eq (sym e)))
  where
    one_le : (q : ℕ) → 1 ≤ suc q
    one_le q = omega arith

-- g is small enough: a multiple of 2 ^ -g is 0, or it is normal
abbrev pub Coarse : Format → ℕ → Type 0
Coarse f g = g + (prec f - 1) ≤ low f

pub multiple_normal : (f : Format) (a c g : ℕ) → 0 < c → 0 < a → Coarse f g → Multiple a c g → prec f ≤ size (a * 2 ^ low f / c)
multiple_normal f a c g C A l x =
    let h : c ≤ a * 2 ^ g = some_times x.times c (a * 2 ^ g) (mul-pos A (pow_pos g)) x.is in
    normal_of_fraction f a c C
    (le_trans (le_of_eq (mul_comm (2 ^ (prec f - 1)) c))
    (le_trans (mul-le-mul_right (2 ^ (prec f - 1)) h)
    (le_trans (le_of_eq (mul_assoc a (2 ^ g) (2 ^ (prec f - 1)) ∙ ap (λ (z : ℕ). a * z) (sym (pow-add 2 g (prec f - 1)))))
    (mul-le-mul_left a (pow_mono l)))))

pub round_scale_multiple : (f : Format) (s : Bool) (a c j g : ℕ) → 0 < c → Coarse f g → Multiple a c g → T (finite (round f s (a * 2 ^ j) c)) → round f s (a * 2 ^ j) c ≡ scale j (round f s a c)
round_scale_multiple f s a c j g C l x t =
    elim (eq-zero-or-pos a) [
      | inl z ↦
          ap (λ (w : ℕ). round f s w c) (none a (2 ^ j) z)
          ∙ zero_scale (round f s a c) s c j C (subst (λ (w : ℕ). HasValue (round f s w c) s 0 c) (sym z) (exact_zero f s c C))
      | inr p ↦ round_scale f s a c j C (multiple_normal f a c g C p l x) t
    ]
  where
    none : (a k : ℕ) → a ≡ 0 → a * k ≡ a
    none a k e = ap (λ (z : ℕ). z * k) e ∙ zero-mul k ∙ sym e

    exact_zero : (f : Format) (s : Bool) (c : ℕ) → 0 < c → HasValue (round f s 0 c) s 0 c
    exact_zero f s c C = round_exact f s 0 c 0 0 C (pow_pos (prec f)) (pow_pos (low f + suc (emax f))) (zero-mul (2 ^ low f) ∙ sym (zero-mul c))

-- a fraction that equals 2 ^ j · a / c
pub round_scale_of : (f : Format) (s : Bool) (a' c' a c j g : ℕ) → 0 < c → 0 < c' → a' * c ≡ a * 2 ^ j * c' → Coarse f g → Multiple a c g → T (finite (round f s a' c')) → round f s a' c' ≡ scale j (round f s a c)
round_scale_of f s a' c' a c j g C C' e l x t =
    let is = round_same f s a' c' (a * 2 ^ j) c C' C e in
    is ∙ round_scale_multiple f s a c j g C l x (subst (λ (z : Float). T (finite z)) is t)

-- ---- the product
pub mul_scale : (f : Format) (g h j : ℕ) (x y : Float) → Coarse f (g + h) → Grained g x → Grained h y → T (finite (mul f (scale j x) y)) → mul f (scale j x) y ≡ scale j (mul f x y)
unfolding mul
mul_scale f g h j nan y l p q t = absurd p
mul_scale f g h j (inf s) y l p q t = absurd p
mul_scale f g h j (fin s m e) nan l p q t = absurd q
mul_scale f g h j (fin s m e) (inf u) l p q t = absurd q
mul_scale f g h j (fin s m e) (fin u n d) l p q t =
    let e' = shifted m e j in
    round_scale_of f (unlike s u) (m * up e' * (n * up d)) (down e' * down d) (m * up e * (n * up d)) (down e * down d) j (g + h)
    (mul-pos (down_pos e) (down_pos d)) (mul-pos (down_pos e') (down_pos d))
    (crossed (m * up e') (n * up d) (down e) (down d) (m * up e) (2 ^ j) (down e') (scale_val m e j)) l
    (multiple_mul (m * up e) (down e) (n * up d) (down d) g h p q) t
  where
    crossed : (a' b c d a k c' : ℕ) → a' * c ≡ a * k * c' → a' * b * (c * d) ≡ a * b * k * (c' * d)
    crossed a' b c d a k c' h = mul-mul-mul_comm a' b c d ∙ ap (λ (z : ℕ). z * (b * d)) h ∙ simp (mul_assoc, mul_comm, mul_left_comm)

-- ---- the sum
module _ (a b c a' b' c' k : ℕ) (C : 0 < c) (C' : 0 < c') (K : 0 < k) (p : a' * c ≡ a * k * c') (q : b' * c ≡ b * k * c') where
  sums : (a' + b') * c ≡ (a + b) * k * c'
  sums = add-mul a' b' c ∙ ap₂ (λ (x y : ℕ). x + y) p q ∙ sym (ap (λ (z : ℕ). z * c') (add-mul a b k) ∙ add-mul (a * k) (b * k) c')

  subs : (a' - b') * c ≡ (a - b) * k * c'
  subs = sub_mul' a' b' c ∙ ap₂ (λ (x y : ℕ). x - y) p q ∙ sym (ap (λ (z : ℕ). z * c') (sub_mul' a b k) ∙ sub_mul' (a * k) (b * k) c')

  ahead : ltb a' b' ≡ ltb a b
  ahead = elim (dec_le b a) [
    | yes h ↦ le-ltb a' b' (le_of_mul-le-mul_right (le_trans (le_of_eq q) (le_trans (mul-le-mul_right c' (mul-le-mul_right k h)) (le_of_eq (sym p)))) C) ∙ sym (le-ltb a b h)
    | no n ↦
        let h : a < b = lt_of_not-le n in
        let g : a * k * c' < b * k * c' = mul-lt-mul_of_pos_right (mul-lt-mul_of_pos_right h K) C' in
        lt-ltb a' b' (lt_of_mul-lt-mul_right c (lt_of_le_of_lt (le_of_eq p) (lt_of_lt_of_le g (le_of_eq (sym q))))) ∙ sym (lt-ltb a b h)
  ]

sum_scale : (f : Format) (s t : Bool) (a b c a' b' c' j g : ℕ) → 0 < c → 0 < c' → a' * c ≡ a * 2 ^ j * c' → b' * c ≡ b * 2 ^ j * c' → Coarse f g → Multiple a c g → Multiple b c g
    → T (finite (sum f s a' t b' c')) → sum f s a' t b' c' ≡ scale j (sum f s a t b c)
unfolding sum
sum_scale f s t a b c a' b' c' j g C C' p q l x y =
    go (beq s t) (ltb a' b') (ltb b' a') (ltb a b) (ltb b a) (ahead a b c a' b' c' (2 ^ j) C C' (pow_pos j) p q) (ahead b a c b' a' c' (2 ^ j) C C' (pow_pos j) q p)
  where
    go : (u w v w₀ v₀ : Bool) → w ≡ w₀ → v ≡ v₀ → T (finite (cond u (round f s (a' + b') c') (cond w (round f t (b' - a') c') (round f (s && v) (a' - b') c'))))
        → cond u (round f s (a' + b') c') (cond w (round f t (b' - a') c') (round f (s && v) (a' - b') c'))
        ≡ scale j (cond u (round f s (a + b) c) (cond w₀ (round f t (b - a) c) (round f (s && v₀) (a - b) c)))
    go true w v w₀ v₀ e i h = round_scale_of f s (a' + b') c' (a + b) c j g C C' (sums a b c a' b' c' (2 ^ j) C C' (pow_pos j) p q) l (multiple_add a b c g x y) h
    go false true v true v₀ e i h = round_scale_of f t (b' - a') c' (b - a) c j g C C' (subs b a c b' a' c' (2 ^ j) C C' (pow_pos j) q p) l (multiple_sub b a c g y x) h
    go false true v false v₀ e i h = absurd (true≢false e)
    go false false v true v₀ e i h = absurd (true≢false (sym e))
    go false false v false v₀ e i h =
        round_scale_of f (s && v) (a' - b') c' (a - b) c j g C C' (subs a b c a' b' c' (2 ^ j) C C' (pow_pos j) p q) l (multiple_sub a b c g x y) h
        ∙ ap (λ (z : Bool). scale j (round f (s && z) (a - b) c)) i

pub add_scale : (f : Format) (g j : ℕ) (x y : Float) → Coarse f g → Grained g x → Grained g y → T (finite (add f (scale j x) (scale j y))) → add f (scale j x) (scale j y) ≡ scale j (add f x y)
unfolding add
add_scale f g j nan y l p q t = absurd p
add_scale f g j (inf s) y l p q t = absurd p
add_scale f g j (fin s m e) nan l p q t = absurd q
add_scale f g j (fin s m e) (inf u) l p q t = absurd q
add_scale f g j (fin s m e) (fin u n d) l p q t =
    let e' = shifted m e j in
    let d' = shifted n d j in
    sum_scale f s u (m * up e * down d) (n * up d * down e) (down e * down d) (m * up e' * down d') (n * up d' * down e') (down e' * down d') j g
    (mul-pos (down_pos e) (down_pos d)) (mul-pos (down_pos e') (down_pos d'))
    (crossed (m * up e') (down d') (down e) (down d) (m * up e) (2 ^ j) (down e') (scale_val m e j))
    (crossed_2 (n * up d') (down e') (down e) (down d) (n * up d) (2 ^ j) (down d') (scale_val n d j))
    l (multiple_wider (m * up e) (down e) (down d) g p)
    (subst (λ (z : ℕ). Multiple (n * up d * down e) z g) (mul_comm (down d) (down e)) (multiple_wider (n * up d) (down d) (down e) g q)) t
  where
    crossed : (a' dd' c d a k c' : ℕ) → a' * c ≡ a * k * c' → a' * dd' * (c * d) ≡ a * d * k * (c' * dd')
    crossed a' dd' c d a k c' h = mul-mul-mul_comm a' dd' c d ∙ ap (λ (z : ℕ). z * (dd' * d)) h ∙ simp (mul_assoc, mul_comm, mul_left_comm)

    crossed_2 : (b' ee' c d b k d' : ℕ) → b' * d ≡ b * k * d' → b' * ee' * (c * d) ≡ b * c * k * (ee' * d')
    crossed_2 b' ee' c d b k d' h = ap (λ (z : ℕ). b' * ee' * z) (mul_comm c d) ∙ mul-mul-mul_comm b' ee' d c ∙ ap (λ (z : ℕ). z * (ee' * c)) h ∙ simp (mul_assoc, mul_comm, mul_left_comm)

-- ---- the quotient of two equally scaled numbers, for all floats
pub div_scale : (f : Format) (j : ℕ) (x y : Float) → div f (scale j x) (scale j y) ≡ div f x y
unfolding div
div_scale f j nan y = refl
div_scale f j (inf s) nan = refl
div_scale f j (inf s) (inf t) = refl
div_scale f j (inf s) (fin t n d) = refl
div_scale f j (fin s m e) nan = refl
div_scale f j (fin s m e) (inf t) = refl
div_scale f j (fin s m e) (fin t zero d) = refl
div_scale f j (fin s m e) (fin t (suc n) d) =
    let z : suc n ≡ 0 → ⊥ = λ g. omega arith in
    let e' = shifted m e j in
    let d' = raised d j in
    let p : 0 < suc n = omega arith in
    rw (ne_eqb (suc n) 0 z)
    (round_same f (unlike s t) (m * up e' * down d') (suc n * up d' * down e') (m * up e * down d) (suc n * up d * down e)
    (mul-pos (mul-pos p (up_pos d')) (down_pos e')) (mul-pos (mul-pos p (up_pos d)) (down_pos e))
    (crossed (m * up e') (down d') (suc n * up d) (down e) (m * up e) (down d) (suc n * up d') (down e') (2 ^ j) (scale_val m e j) (scale_val (suc n) d j)))
  where
    crossed : (a' dd' b ee a dd b' ee' k : ℕ) → a' * ee ≡ a * k * ee' → b' * dd ≡ b * k * dd' → a' * dd' * (b * ee) ≡ a * dd * (b' * ee')
    crossed a' dd' b ee a dd b' ee' k p q =
        let l : a' * dd' * (b * ee) ≡ a' * ee * (b * dd') = simp (mul_assoc, mul_comm, mul_left_comm) in
        let r : a * dd * (b' * ee') ≡ b' * dd * (a * ee') = simp (mul_assoc, mul_comm, mul_left_comm) in
        let m : a * k * ee' * (b * dd') ≡ b * k * dd' * (a * ee') = simp (mul_assoc, mul_comm, mul_left_comm) in
        l ∙ ap (λ (z : ℕ). z * (b * dd')) p ∙ m ∙ sym (ap (λ (z : ℕ). z * (a * ee')) q) ∙ sym r

-- ---- both factors scaled
pub mul_scale_both : (f : Format) (g h i j : ℕ) (x y : Float) → Coarse f (g + h) → Grained g x → Grained h y → T (finite (mul f (scale i x) (scale j y))) → mul f (scale i x) (scale j y) ≡ scale (i + j) (mul f x y)
unfolding mul
mul_scale_both f g h i j nan y l p q t = absurd p
mul_scale_both f g h i j (inf s) y l p q t = absurd p
mul_scale_both f g h i j (fin s m e) nan l p q t = absurd q
mul_scale_both f g h i j (fin s m e) (inf u) l p q t = absurd q
mul_scale_both f g h i j (fin s m e) (fin u n d) l p q t =
    let e' = shifted m e i in
    let d' = shifted n d j in
    round_scale_of f (unlike s u) (m * up e' * (n * up d')) (down e' * down d') (m * up e * (n * up d)) (down e * down d) (i + j) (g + h)
    (mul-pos (down_pos e) (down_pos d)) (mul-pos (down_pos e') (down_pos d'))
    (crossed (m * up e') (n * up d') (down e) (down d) (m * up e) (n * up d) (2 ^ i) (2 ^ j) (2 ^ (i + j)) (down e') (down d') (pow-add 2 i j) (scale_val m e i) (scale_val n d j)) l
    (multiple_mul (m * up e) (down e) (n * up d) (down d) g h p q) t
  where
    crossed : (a' b' c d a b k l kl c' d' : ℕ) → kl ≡ k * l → a' * c ≡ a * k * c' → b' * d ≡ b * l * d' → a' * b' * (c * d) ≡ a * b * kl * (c' * d')
    crossed a' b' c d a b k l kl c' d' z h g =
        let r : a * k * c' * (b * l * d') ≡ a * b * (k * l) * (c' * d') = simp (mul_assoc, mul_comm, mul_left_comm) in
        mul-mul-mul_comm a' b' c d ∙ ap₂ (λ (x y : ℕ). x * y) h g ∙ r ∙ ap (λ (w : ℕ). a * b * w * (c' * d')) (sym z)

-- ---- the order of two equally scaled numbers, for all floats
below_scale : (s t : Bool) (a b c a' b' c' k : ℕ) → 0 < c → 0 < c' → 0 < k → a' * c ≡ a * k * c' → b' * c ≡ b * k * c' → below s a' t b' ≡ below s a t b
below_scale false false a b c a' b' c' k C C' K p q = ahead a b c a' b' c' k C C' K p q
below_scale false true a b c a' b' c' k C C' K p q = refl
below_scale true false a b c a' b' c' k C C' K p q =
    ahead 0 (a + b) c 0 (a' + b') c' k C C' K (zero-mul c ∙ sym (ap (λ (z : ℕ). z * c') (zero-mul k) ∙ zero-mul c')) (sums a b c a' b' c' k C C' K p q)
below_scale true true a b c a' b' c' k C C' K p q = ahead b a c b' a' c' k C C' K q p

pub lt_scale : (j : ℕ) (x y : Float) → lt (scale j x) (scale j y) ≡ lt x y
unfolding lt
lt_scale j nan y = refl
lt_scale j (inf s) nan = refl
lt_scale j (inf s) (inf t) = refl
lt_scale j (inf s) (fin t n d) = refl
lt_scale j (fin s m e) nan = refl
lt_scale j (fin s m e) (inf t) = refl
lt_scale j (fin s m e) (fin t n d) =
    let e' = shifted m e j in
    let d' = shifted n d j in
    below_scale s t (m * up e * down d) (n * up d * down e) (down e * down d) (m * up e' * down d') (n * up d' * down e') (down e' * down d') (2 ^ j)
    (mul-pos (down_pos e) (down_pos d)) (mul-pos (down_pos e') (down_pos d')) (pow_pos j)
    (crossed (m * up e') (down d') (down e) (down d) (m * up e) (2 ^ j) (down e') (scale_val m e j))
    (crossed_2 (n * up d') (down e') (down e) (down d) (n * up d) (2 ^ j) (down d') (scale_val n d j))
  where
    crossed : (a' dd' c d a k c' : ℕ) → a' * c ≡ a * k * c' → a' * dd' * (c * d) ≡ a * d * k * (c' * dd')
    crossed a' dd' c d a k c' h = mul-mul-mul_comm a' dd' c d ∙ ap (λ (z : ℕ). z * (dd' * d)) h ∙ simp (mul_assoc, mul_comm, mul_left_comm)

    crossed_2 : (b' ee' c d b k d' : ℕ) → b' * d ≡ b * k * d' → b' * ee' * (c * d) ≡ b * c * k * (ee' * d')
    crossed_2 b' ee' c d b k d' h = ap (λ (z : ℕ). b' * ee' * z) (mul_comm c d) ∙ mul-mul-mul_comm b' ee' d c ∙ ap (λ (z : ℕ). z * (ee' * c)) h ∙ simp (mul_assoc, mul_comm, mul_left_comm)
