-- Document 01, 'Concentration and normalizer': log I_nu(kappa) by its two evaluators, and the log normalizing constant
-- of a von Mises-Fisher density, each in vmf.rs's order of operations. Definitions only.
use Rattle.std.specs.Prelude.{Bool, true, false, ◌&&◌, ◌||◌, cond, ℕ, zero, suc, Float}
use Rattle.std.specs.Float.{binary64}
use Rattle.std.specs.Float.Ieee.{add, sub, mul, div, neg, lt, le}
use Rattle.float.specs.Arithmetic.{number}
use Rattle.root.specs.Root.{root_of}
use Rattle.exponential.specs.Exponential.{exp_of}
use Rattle.logarithm.specs.Logarithm.{ln_of}
use Rattle.gamma.specs.Gamma.{half, tau, ln_gamma_of}
use Rattle.bessel.specs.declared.PeakSum.{PeakSum}

-- ---- log I_nu(kappa) by DLMF 10.41.3, three terms

-- (3·p − 5·p3)/24
abbrev pub u1_of : Float → Float → Float
u1_of p p3 = div binary64 (sub binary64 (mul binary64 (number 3) p) (mul binary64 (number 5) p3)) (number 24)

-- (81·p2 − 462·p2·p2 + 385·p3·p3)/1152
abbrev pub u2_of : Float → Float → Float
u2_of p2 p3 =
    div binary64
    (add binary64
    (sub binary64 (mul binary64 (number 81) p2) (mul binary64 (mul binary64 (number 462) p2) p2))
    (mul binary64 (mul binary64 (number 385) p3) p3))
    (number 1152)

-- 1 + U1/nu + U2/(nu·nu), at p = 1/w
abbrev pub terms_of : Float → Float → Float
terms_of nu w =
    let p = div binary64 (number 1) w in
    let p2 = mul binary64 p p in
    let p3 = mul binary64 (mul binary64 p p) p in
    add binary64 (add binary64 (number 1) (div binary64 (u1_of p p3) nu))
    (div binary64 (u2_of p2 p3) (mul binary64 nu nu))

-- at z = kappa/nu and w = √(1 + z·z): nu·eta − 0.5·ln(TAU·nu) − 0.5·ln w + ln(terms), eta = w + ln(z/(1 + w))
abbrev pub asymptotic_at : Float → Float → Float → Float
asymptotic_at nu z w =
    add binary64
    (sub binary64
    (sub binary64
    (mul binary64 nu (add binary64 w (ln_of (div binary64 z (add binary64 (number 1) w)))))
    (mul binary64 half (ln_of (mul binary64 tau nu))))
    (mul binary64 half (ln_of w)))
    (ln_of (terms_of nu w))

unfoldable pub asymptotic_of : Float → Float → Float
asymptotic_of nu kappa =
    let z = div binary64 kappa nu in
    asymptotic_at nu z (root_of (add binary64 (number 1) (mul binary64 z z)))

-- ---- log I_nu(kappa) by the series

-- log a of term m: that of the term before + (2·halfLn − ln m − ln(nu + m))
abbrev pub term_after : Float → Float → Float → Float → Float
term_after nu halfLn m logA =
    add binary64 logA
    (sub binary64 (sub binary64 (mul binary64 (number 2) halfLn) (ln_of m)) (ln_of (add binary64 nu m)))

-- the peak and the sum of exp(log a − peak), with one term more
abbrev pub with_term : PeakSum → Float → PeakSum
with_term s logA =
    record {
      peak = cond (lt s.peak logA) logA s.peak;
      sum =
          cond (lt s.peak logA)
          (add binary64 (mul binary64 s.sum (exp_of (sub binary64 s.peak logA))) (number 1))
          (add binary64 s.sum (exp_of (sub binary64 logA s.peak)));
    }

-- past the peak (m > kappa·0.5) and a negligible tail, or m > 200000
abbrev pub ends_at : Float → Float → Float → Float → Bool
ends_at kappa m peak logA =
    (lt (mul binary64 kappa half) m && lt logA (sub binary64 peak (number 40))) || lt (number 200000) m

abbrev pub or_go_on : Bool → PeakSum → PeakSum → PeakSum
or_go_on true s t = s
or_go_on false s t = t

-- n turns at most, from term m on
unfoldable pub series_from : ℕ → Float → Float → Float → Float → PeakSum → Float → PeakSum
series_from zero nu kappa halfLn logA s m = s
series_from (suc n) nu kappa halfLn logA s m =
    let a = term_after nu halfLn m logA in
    let t = with_term s a in
    or_go_on (ends_at kappa m t.peak a) t (series_from n nu kappa halfLn a t (add binary64 m (number 1)))

-- from log a_0: the peak is log a_0 and the sum 1; m = 200001 is the last turn
abbrev pub peak_sum_of : Float → Float → Float → Float → PeakSum
peak_sum_of nu kappa halfLn first =
    series_from 200001 nu kappa halfLn first (record { peak = first; sum = number 1 }) (number 1)

-- nu·halfLn + peak + ln sum
abbrev pub series_at : Float → Float → PeakSum → Float
series_at nu halfLn s = add binary64 (add binary64 (mul binary64 nu halfLn) s.peak) (ln_of s.sum)

unfoldable pub series_of : Float → Float → Float
series_of nu kappa =
    let halfLn = ln_of (mul binary64 kappa half) in
    series_at nu halfLn (peak_sum_of nu kappa halfLn (neg (ln_gamma_of (add binary64 nu (number 1)))))

-- ---- log I_nu(kappa), and the log normalizing constant in d dimensions

-- DLMF 10.41.3 exactly when nu ≥ 1 and kappa ≥ 1e4, else the series
unfoldable pub log_iv_of : Float → Float → Float
log_iv_of nu kappa = cond (le (number 1) nu && le (number 10000) kappa) (asymptotic_of nu kappa) (series_of nu kappa)

-- nu·ln kappa − (d/2)·ln TAU − log I_nu(kappa), at nu = d/2 − 1
abbrev pub log_norm_at : Float → Float → Float
log_norm_at halfD kappa =
    let nu = sub binary64 halfD (number 1) in
    sub binary64 (sub binary64 (mul binary64 nu (ln_of kappa)) (mul binary64 halfD (ln_of tau))) (log_iv_of nu kappa)

unfoldable pub log_vmf_norm_of : ℕ → Float → Float
log_vmf_norm_of d kappa = log_norm_at (div binary64 (number d) (number 2)) kappa
