-- Document 01, 'Concentration and normalizer': ln_gamma, in vmf.rs's order of operations. Definitions only.
use Rattle.std.specs.Prelude.{List, [], ◌∷◌, ℕ, suc, Float}
use Rattle.std.specs.Float.{binary64}
use Rattle.std.specs.Float.Ieee.{add, sub, mul, div}
use Rattle.float.specs.Arithmetic.{f64, number}
use Rattle.logarithm.specs.Logarithm.{ln_of}

-- 0.5, and TAU, 6.283185307179586
abbrev pub half : Float
half = f64 0x3FE0000000000000

abbrev pub tau : Float
tau = f64 0x401921FB54442D18

-- ---- ln_gamma, with vmf.rs's nine constants

-- 0.9999999999998099
abbrev pub lanczos : Float
lanczos = f64 0x3FEFFFFFFFFFF950

-- 676.5203681218851, −1259.1392167224028, 771.3234287776531, −176.6150291621406,
-- 12.507343278686905, −0.13857109526572012, 9.984369578019572e-6, 1.5056327351493116e-7
abbrev pub lanczos_terms : List Float
lanczos_terms =
    f64 0x40852429B6C30B05 ∷ f64 0xC093AC8E8ED4171B ∷ f64 0x40881A9661D3B4D8 ∷ f64 0xC06613AE51A32F5D
    ∷ f64 0x402903C27F8B9C81 ∷ f64 0xBFC1BCB2992B2855 ∷ f64 0x3EE4F0514E4E324F ∷ f64 0x3E8435508F3FAEEF ∷ []

-- a, with c/(x + i) added for each constant c in turn, i counting up
abbrev pub lanczos_from : Float → Float → ℕ → List Float → Float
lanczos_from x a i [] = a
lanczos_from x a i (c ∷ cs) = lanczos_from x (add binary64 a (div binary64 c (add binary64 x (number i)))) (suc i) cs

-- at x + 1, with t = x + 7 + 0.5 and a from the constants: 0.5·ln TAU + (x + 0.5)·ln t − t + ln a
abbrev pub ln_gamma_at : Float → Float → Float → Float
ln_gamma_at x t a =
    add binary64
    (sub binary64 (add binary64 (mul binary64 half (ln_of tau)) (mul binary64 (add binary64 x half) (ln_of t))) t)
    (ln_of a)

unfoldable pub ln_gamma_of : Float → Float
ln_gamma_of y =
    let x = sub binary64 y (number 1) in
    ln_gamma_at x (add binary64 (add binary64 x (number 7)) half) (lanczos_from x lanczos 1 lanczos_terms)

-- ---- document 02, #105: where the series starts

-- ln_gamma of d/2
abbrev pub ln_gamma_half : ℕ → Float
ln_gamma_half d = ln_gamma_of (div binary64 (number d) (number 2))
