-- What is left of an x past its n, r = (x − n·H) − n·T, lies within 3/8, and is 1/8 at least where n is −1075 and x not below −745.
-- Assumes nothing.
use mathlib.Core.Path.{◌≡◌, sym, ap, ◌∙◌, subst}
use Prim.Native.Nat.{ℕ, zero, suc, ◌+◌, ◌-◌, ◌*◌, ◌≤◌, ◌<◌}
use native.Mathlib.Nat.{le_trans, le_of_eq, add-mul, mul_assoc, mul_comm}
use native.Mathlib.Nat.{mul_left_comm, mul_right_comm, mul-one, mul-pos, mul-le-mul_right, lt_of_mul-lt-mul_right}
use native.Mathlib.Omega.{arith}
use mathlib.Core.Bool.{Bool, true, false, not, cond, ◌&&◌, true≢false}
use borrow.Author.Tests.{lt-ltb}
use lib.IntN.{ℤ}
use lib.Dec.{ltb, lit<, lit≤}
use lib.Ieee.{Float, nan, inf, fin, binary64, up, down, round, sum, add, sub, mul, neg, of_int, of_bits}
use lib.Ieee.Fits.{down_pos}
use lib.Ieee.Exact.{HasValue}
use lib.Ieee.Back.{round_whole}
use lib.Ieee.Scale.{round_same}
use Rattle.exponential.specs.Exponential.{part_h, part_t, left_of}
use Rattle.float.proofs.Bound.{Within, Over, Signed, held_part, part_value, within_wider, over_wider}
use Rattle.float.proofs.Bound.{round_signed, round_within, round_over}
use Rattle.float.proofs.Ranges.{mul_within, sub_within, sub_over}
use Rattle.exponential.proofs.Turns.{Close, signed}

-- ---- n as a float
whole_value : (s : Bool) (j : ℕ) → suc j ≤ 1076 → HasValue (of_int binary64 (signed s (suc j))) s (suc j) 1
unfolding of_int
whole_value false j h = round_whole binary64 false (suc j) (omega arith)
whole_value true j h = round_whole binary64 true (suc j) (omega arith)

value_within : (s : Bool) (k : ℕ) (v : Float) → k ≤ 1076 → HasValue v s k 1 → Within 2048 1 v
value_within s k nan h v = v
value_within s k (inf t) h v = v
value_within s k (fin t m e) h v = let l : k * down e ≤ 1076 * down e = mul-le-mul_right (down e) h in omega (arith, v.1)

whole_within : (s : Bool) (k : ℕ) → k ≤ 1076 → Within 2048 1 (of_int binary64 (signed s k))
unfolding of_int
whole_within false zero h = lit≤ tt
whole_within true zero h = lit≤ tt
whole_within s (suc j) h = value_within s (suc j) (of_int binary64 (signed s (suc j))) h (whole_value s j h)

-- ---- n·H is exact
exact_H : (s : Bool) (a d k : ℕ) → 0 < d → k ≤ 1076 → a * 1 ≡ k * d →
    HasValue (round binary64 s (a * 2977044471) (d * 4294967296)) s (k * 2977044471) 4294967296
exact_H s a d k D h e =
    subst (λ (w : Float). HasValue w s (k * 2977044471) 4294967296)
    (round_same binary64 s (k * 2977044471) 4294967296 (a * 2977044471) (d * 4294967296) (lit< tt) (mul-pos D (lit< tt)) across)
    (part_value binary64 s (k * 2977044471) 32 (omega arith) (lit≤ tt))
  where
    across : k * 2977044471 * (d * 4294967296) ≡ a * 2977044471 * 4294967296
    across = rw (← mul-one a, e) (simp (mul_assoc, mul_comm, mul_left_comm))

by_H : (s : Bool) (k : ℕ) (v : Float) → k ≤ 1076 → HasValue v s k 1 → HasValue (mul binary64 v part_h) s (k * 2977044471) 4294967296
unfolding mul of_bits
by_H s k nan h v = absurd v
by_H s k (inf t) h v = absurd v
by_H true k (fin false m e) h v = absurd (true≢false (sym v.0))
by_H false k (fin true m e) h v = absurd (true≢false v.0)
by_H false k (fin false m e) h v = exact_H false (m * up e) (down e) k (down_pos e) h v.1
by_H true k (fin true m e) h v = exact_H true (m * up e) (down e) k (down_pos e) h v.1

-- ---- 1.44269 < 1.4426950408889634 < 1.4427
under_c : (a w : ℕ) → a * 3248660424278399 ≤ w * 2251799813685248 → a * 144269 ≤ w * 100000
under_c a w h = omega arith

over_c : (a w : ℕ) → w * 2251799813685248 ≤ a * 3248660424278399 → w * 10000 ≤ a * 14427
over_c a w h = omega arith

-- ---- x is a / d and n is k, both without their signs
module _ (a d k : ℕ) (c : Close (a * 3248660424278399) (d * 2251799813685248) k) where
  turns_most : 512 * a * 144269 ≤ (512 * (k * d) + 257 * d) * 100000
  turns_most = under_c (512 * a) (512 * (k * d) + 257 * d) (told (k * (d * 2251799813685248)) c.most (mul_assoc k d 2251799813685248))
    where
      told : (u : ℕ) → 512 * (a * 3248660424278399) ≤ 512 * u + 257 * (d * 2251799813685248) → k * d * 2251799813685248 ≡ u
          → 512 * a * 3248660424278399 ≤ (512 * (k * d) + 257 * d) * 2251799813685248
      told u h e = omega arith

  -- 257 / 1.4426950408889634 is below 179
  turns_least : 512 * (k * d) * 10000 ≤ (512 * a + 179 * d) * 14427
  turns_least = over_c (512 * a + 179 * d) (512 * (k * d)) (told (k * (d * 2251799813685248)) c.least (mul_assoc k d 2251799813685248))
    where
      told : (u : ℕ) → 512 * u ≤ 512 * (a * 3248660424278399) + 257 * (d * 2251799813685248) → k * d * 2251799813685248 ≡ u
          → 512 * (k * d) * 2251799813685248 ≤ (512 * a + 179 * d) * 3248660424278399
      told u h e = omega arith

  -- n is not under −1075 where x is not below −745, and not under −1021 where x is not below −708;
  -- it is −1021 at most where x is not above −708
  pub from_745 : 0 < d → a ≤ 745 * d → k ≤ 1075
  from_745 D h = let l : k < 1076 = lt_of_mul-lt-mul_right d (omega (arith, turns_least)) in omega arith

  pub from_708 : 0 < d → a ≤ 708 * d → k ≤ 1021
  from_708 D h = let l : k < 1022 = lt_of_mul-lt-mul_right d (omega (arith, turns_least)) in omega arith

  pub past_708 : 0 < d → 708 * d ≤ a → 1021 ≤ k
  past_708 D h = let l : 1020 < k = lt_of_mul-lt-mul_right d (omega (arith, turns_most)) in omega arith

  -- ---- x − n·H lies within 23/64: b / f is n·H without its sign
  module _ (K : k ≤ 1076) where
    -- these numbers are 64·2^32, 64·2^32·H and 23·2^32
    off_most : a * 274877906944 ≤ k * d * 190530846144 + 98784247808 * d
    off_most = settle turns_most (mul-le-mul_right d K)
      where
        settle : 512 * a * 144269 ≤ (512 * (k * d) + 257 * d) * 100000 → k * d ≤ 1076 * d →
            a * 274877906944 ≤ k * d * 190530846144 + 98784247808 * d
        settle h l = omega arith

    off_least : k * d * 190530846144 ≤ a * 274877906944 + 98784247808 * d
    off_least = settle turns_least (mul-le-mul_right d K)
      where
        settle : 512 * (k * d) * 10000 ≤ (512 * a + 179 * d) * 14427 → k * d ≤ 1076 * d →
            k * d * 190530846144 ≤ a * 274877906944 + 98784247808 * d
        settle h l = omega arith

    module _ (b f : ℕ) (v : b * 4294967296 ≡ k * 2977044471 * f) where
      same : b * d * 4294967296 ≡ k * d * f * 2977044471
      same = mul_right_comm b d 4294967296 ∙ ap (λ (z : ℕ). z * d) v ∙ simp (mul_assoc, mul_comm, mul_left_comm)

      apart_most : (a * f - b * d) * 64 ≤ 23 * (d * f)
      apart_most =
          let x : a * 274877906944 * f ≤ (k * d * 190530846144 + 98784247808 * d) * f = mul-le-mul_right f off_most in
          let y : a * 274877906944 * f ≡ a * f * 274877906944 = mul_right_comm a 274877906944 f in
          let z : (k * d * 190530846144 + 98784247808 * d) * f ≡ k * d * f * 190530846144 + 98784247808 * (d * f) =
          simp (add-mul, mul_assoc, mul_comm, mul_left_comm) in
          omega (arith, same)

      apart_least : (b * d - a * f) * 64 ≤ 23 * (d * f)
      apart_least =
          let x : k * d * 190530846144 * f ≤ (a * 274877906944 + 98784247808 * d) * f = mul-le-mul_right f off_least in
          let y : k * d * 190530846144 * f ≡ k * d * f * 190530846144 = mul_right_comm (k * d) 190530846144 f in
          let z : (a * 274877906944 + 98784247808 * d) * f ≡ a * f * 274877906944 + 98784247808 * (d * f) =
          simp (add-mul, mul_assoc, mul_comm, mul_left_comm) in
          omega (arith, same)

-- the difference of two of one sign
apart : (s : Bool) (a b c : ℕ) → 0 < c → (a - b) * 64 ≤ 23 * c → (b - a) * 64 ≤ 23 * c →
    Within 23 64 (cond (ltb a b) (round binary64 (not s) (b - a) c) (round binary64 (s && ltb b a) (a - b) c))
apart s a b c C h k = go (ltb a b) (ltb b a)
  where
    go : (t u : Bool) → Within 23 64 (cond t (round binary64 (not s) (b - a) c) (round binary64 (s && u) (a - b) c))
    go true u = round_within binary64 (not s) (b - a) c 23 64 C (lit< tt) (held_part binary64 23 6 (lit< tt) (lit≤ tt)) k
    go false u = round_within binary64 (s && u) (a - b) c 23 64 C (lit< tt) (held_part binary64 23 6 (lit< tt) (lit≤ tt)) h

less_H : (s : Bool) (m : ℕ) (e : ℤ) (k : ℕ) (v : Float) → Close (m * up e * 3248660424278399) (down e * 2251799813685248) k → k ≤ 1076 →
    HasValue v s (k * 2977044471) 4294967296 → Within 23 64 (sub binary64 (fin s m e) v)
unfolding sub add sum neg
less_H s m e k nan c K v = absurd v
less_H s m e k (inf t) c K v = absurd v
less_H true m e k (fin false n d) c K v = absurd (true≢false (sym v.0))
less_H false m e k (fin true n d) c K v = absurd (true≢false v.0)
less_H false m e k (fin false n d) c K v =
    apart false (m * up e * down d) (n * up d * down e) (down e * down d) (mul-pos (down_pos e) (down_pos d))
    (apart_most (m * up e) (down e) k c K (n * up d) (down d) v.1) (apart_least (m * up e) (down e) k c K (n * up d) (down d) v.1)
less_H true m e k (fin true n d) c K v =
    apart true (m * up e * down d) (n * up d * down e) (down e * down d) (mul-pos (down_pos e) (down_pos d))
    (apart_most (m * up e) (down e) k c K (n * up d) (down d) v.1) (apart_least (m * up e) (down e) k c K (n * up d) (down d) v.1)

no_H : (s : Bool) → Within 0 64 (mul binary64 (of_int binary64 (signed s 0)) part_h)
unfolding of_int mul of_bits
no_H true = lit≤ tt
no_H false = lit≤ tt

past_H : (s : Bool) (m : ℕ) (e : ℤ) (k : ℕ) → Close (m * up e * 3248660424278399) (down e * 2251799813685248) k → k ≤ 1076 →
    Within 23 64 (sub binary64 (fin s m e) (mul binary64 (of_int binary64 (signed s k)) part_h))
past_H s m e zero c K =
    sub_within binary64 23 0 64 (fin s m e) (mul binary64 (of_int binary64 (signed s 0)) part_h) (lit< tt)
    (held_part binary64 23 6 (lit< tt) (lit≤ tt))
    (small (m * up e) (down e) (off_most (m * up e) (down e) 0 c K)) (no_H s)
  where
    small : (a d : ℕ) → a * 274877906944 ≤ 0 * d * 190530846144 + 98784247808 * d → a * 64 ≤ 23 * d
    small a d h = omega arith
past_H s m e (suc j) c K =
    less_H s m e (suc j) (mul binary64 (of_int binary64 (signed s (suc j))) part_h) c K
    (by_H s (suc j) (of_int binary64 (signed s (suc j))) K (whole_value s j K))

-- ---- n·T is small
T_small : Within 1 4194304 part_t
unfolding of_bits
T_small = lit≤ tt

by_T : (s : Bool) (k : ℕ) → k ≤ 1076 → Within 2048 4194304 (mul binary64 (of_int binary64 (signed s k)) part_t)
by_T s k K =
    mul_within binary64 2048 1 1 4194304 (of_int binary64 (signed s k)) part_t (lit< tt) (lit< tt)
    (held_part binary64 2048 22 (lit< tt) (lit≤ tt)) (whole_within s k K) T_small

-- r is within 3/8
pub rest_within : (s : Bool) (m : ℕ) (e : ℤ) (k : ℕ) → Close (m * up e * 3248660424278399) (down e * 2251799813685248) k → k ≤ 1076 →
    Within 3 8 (left_of (fin s m e) (of_int binary64 (signed s k)))
rest_within s m e k c K =
    let n = of_int binary64 (signed s k) in
    within_wider 24 64 3 8 (left_of (fin s m e) n) (lit< tt) (lit≤ tt)
    (sub_within binary64 23 1 64 (sub binary64 (fin s m e) (mul binary64 n part_h)) (mul binary64 n part_t) (lit< tt)
    (held_part binary64 24 6 (lit< tt) (lit≤ tt))
    (past_H s m e k c K) (within_wider 2048 4194304 1 64 (mul binary64 n part_t) (lit< tt) (lit≤ tt) (by_T s k K)))

-- ---- at n = −1075
tail_H : (m : ℕ) (e : ℤ) (v : Float) → m * up e ≤ 745 * down e → HasValue v true (1075 * 2977044471) 4294967296 →
    Signed false (sub binary64 (fin true m e) v) × Over 17 128 (sub binary64 (fin true m e) v)
unfolding sub add sum neg
tail_H m e nan h v = absurd v
tail_H m e (inf t) h v = absurd v
tail_H m e (fin false n d) h v = absurd (true≢false (sym v.0))
tail_H m e (fin true n d) h v =
    let a = m * up e * down d in
    let b = n * up d * down e in
    let c = down e * down d in
    let C : 0 < c = mul-pos (down_pos e) (down_pos d) in
    let x : a ≤ 745 * c = le_trans (mul-le-mul_right (down d) h) (le_of_eq (mul_assoc 745 (down e) (down d))) in
    let y : b * 4294967296 ≡ 1075 * 2977044471 * c =
    mul_right_comm (n * up d) (down e) 4294967296
    ∙ ap (λ (z : ℕ). z * down e) v.1
    ∙ mul_assoc (1075 * 2977044471) (down d) (down e) ∙ ap (λ (z : ℕ). 1075 * 2977044471 * z) (mul_comm (down d) (down e)) in
    let l : a < b = omega arith in
    rw (lt-ltb a b l) (
      round_signed binary64 false (b - a) c,
      round_over binary64 (b - a) c 17 128 C (lit< tt) (held_part binary64 17 7 (lit< tt) (lit≤ tt)) (omega arith),
    )

-- r is 1/8 at least
pub rest_over : (m : ℕ) (e : ℤ) → m * up e ≤ 745 * down e →
    Signed false (left_of (fin true m e) (of_int binary64 (signed true 1075)))
    × Over 1 8 (left_of (fin true m e) (of_int binary64 (signed true 1075)))
rest_over m e h =
    let n = of_int binary64 (signed true 1075) in
    let t = tail_H m e (mul binary64 n part_h) h (by_H true 1075 n (lit≤ tt) (whole_value true 1074 (lit≤ tt))) in
    let r = sub_over binary64 16 1 128 (sub binary64 (fin true m e) (mul binary64 n part_h)) (mul binary64 n part_t) (lit< tt)
    (held_part binary64 16 7 (lit< tt) (lit≤ tt))
    t.0 t.1 (within_wider 2048 4194304 1 128 (mul binary64 n part_t) (lit< tt) (lit≤ tt) (by_T true 1075 (lit≤ tt))) in
    (r.0, over_wider 16 128 1 8 (left_of (fin true m e) n) (lit< tt) (lit≤ tt) r.1)
