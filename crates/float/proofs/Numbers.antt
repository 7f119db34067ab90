-- Operations whose result is no NaN, by the cases of their operands: a rounded value is none. Assumes nothing.
use mathlib.Core.Path.{◌≡◌}
use mathlib.Core.Bool.{Bool, true, false, not, beq, cond, ◌&&◌}
use Prim.Native.Nat.{ℕ, ◌+◌, ◌-◌, ◌*◌}
use native.Mathlib.Omega.{arith}
use lib.Dec.{T, ltb, eqb, ltb→lt}
use lib.IntN.{pos}
use borrow.Author.Tests.{ne_eqb}
use lib.Ieee.{Float, nan, inf, fin, Format, up, down, round, neg, sum, add, sub, mul, div, of_int, is_nan}
use lib.Ieee.Positive.{positive}
use Rattle.float.proofs.Bound.{Signed, round_signed}

signed_number : (s : Bool) (x : Float) → Signed s x → T (not (is_nan x))
unfolding is_nan
signed_number s nan h = h
signed_number s (inf t) h = tt
signed_number s (fin t m e) h = tt

pub round_number : (f : Format) (s : Bool) (a c : ℕ) → T (not (is_nan (round f s a c)))
round_number f s a c = signed_number s (round f s a c) (round_signed f s a c)

pub whole_number : (f : Format) (n : ℕ) → T (not (is_nan (of_int f (pos n))))
unfolding of_int
whole_number f n = round_number f false n 1

either : (b : Bool) (x y : Float) → T (not (is_nan x)) → T (not (is_nan y)) → T (not (is_nan (cond b x y)))
either true x y g h = g
either false x y g h = h

sum_number : (f : Format) (s : Bool) (a : ℕ) (t : Bool) (b c : ℕ) → T (not (is_nan (sum f s a t b c)))
unfolding sum
sum_number f s a t b c =
    either (beq s t) (round f s (a + b) c) (cond (ltb a b) (round f t (b - a) c) (round f (s && ltb b a) (a - b) c)) (round_number f s (a + b) c)
    (either (ltb a b) (round f t (b - a) c) (round f (s && ltb b a) (a - b) c) (round_number f t (b - a) c) (round_number f (s && ltb b a) (a - b) c))

not_zero : (m : ℕ) → T (ltb 0 m) → eqb m 0 ≡ false
not_zero m h = ne_eqb m 0 (λ e. let l = ltb→lt 0 m h in omega arith)

pub sub_number : (f : Format) (x y : Float) → T (not (is_nan x)) → T (positive y) → T (not (is_nan (sub f x y)))
unfolding sub add neg is_nan
sub_number f nan y g p = absurd g
sub_number f (inf s) nan g p = absurd p
sub_number f (inf s) (inf t) g p = absurd p
sub_number f (inf s) (fin t n d) g p = tt
sub_number f (fin s m e) nan g p = absurd p
sub_number f (fin s m e) (inf t) g p = absurd p
sub_number f (fin s m e) (fin t n d) g p = sum_number f s (m * up e * down d) (not t) (n * up d * down e) (down e * down d)

pub mul_number : (f : Format) (x y : Float) → T (positive x) → T (not (is_nan y)) → T (not (is_nan (mul f x y)))
unfolding mul is_nan
mul_number f nan y p g = absurd p
mul_number f (inf s) y p g = absurd p
mul_number f (fin true m e) y p g = absurd p
mul_number f (fin false m e) nan p g = absurd g
mul_number f (fin false m e) (inf t) p g = rw (not_zero m p) tt
mul_number f (fin false m e) (fin t n d) p g = round_number f _ (m * up e * (n * up d)) (down e * down d)

pub div_number : (f : Format) (x y : Float) → T (not (is_nan x)) → T (positive y) → T (not (is_nan (div f x y)))
unfolding div is_nan
div_number f nan y g p = absurd g
div_number f (inf s) nan g p = absurd p
div_number f (inf s) (inf t) g p = absurd p
div_number f (inf s) (fin t n d) g p = tt
div_number f (fin s m e) nan g p = absurd p
div_number f (fin s m e) (inf t) g p = absurd p
div_number f (fin s m e) (fin true n d) g p = absurd p
div_number f (fin s m e) (fin false n d) g p = rw (not_zero n p) (round_number f _ (m * up e * down d) (n * up d * down e))
