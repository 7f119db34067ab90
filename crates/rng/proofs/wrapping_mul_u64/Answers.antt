-- In base 2^32 the two low digits of a product come from three of its four partial products.
use Rattle.std.proofs.Common.{◌≡◌, ℕ, ◌+◌, ◌*◌, ◌/◌, ◌%◌, ◌^◌, sym, ap, ◌∙◌, arith, div-add-mod'}
use native.Mathlib.Nat.{add-mod-mod, add-mul-mod_self_right}
use Rattle.rng.proofs.wrapping_mul_u64.Goals as goal

carry : (P x q r h : ℕ) → x + r * P + (q * P + h) * (P * P) ≡ x + (q * (P * P) + r) * P + h * (P * P)
carry P x q r h = omega arith

digits : (P a c b d : ℕ) → a * b + (c * b + a * d) * P + c * d * (P * P) ≡ (c * P + a) * (d * P + b)
digits P a c b d = omega arith

-- in base P, what the low two digits of a product are made of
law : (P a b : ℕ) → let Q = P * P in let m = a / P * (b % P) + a % P * (b / P) in (a % P * (b % P) + m % Q * P % Q) % Q ≡ a * b % Q
law P a b =
    let Q = P * P in
    let x = a % P * (b % P) in
    let m = a / P * (b % P) + a % P * (b / P) in
    add-mod-mod x (m % Q * P) Q
    ∙ sym (add-mul-mod_self_right (x + m % Q * P) (m / Q * P + a / P * (b / P)) Q)
    ∙ ap (λ (n : ℕ). n % Q)
    (carry P x (m / Q) (m % Q) (a / P * (b / P)) ∙ ap (λ (n : ℕ). x + n * P + a / P * (b / P) * Q) (div-add-mod' m Q)
    ∙ digits P (a % P) (a / P) (b % P) (b / P) ∙ (λ i. div-add-mod' a P i * div-add-mod' b P i))

pub returns : goal.returns
returns c = law (2 ^ 32) c.args.a c.args.b
