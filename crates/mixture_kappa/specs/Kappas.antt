-- Document 01, 'Mixture' and 'Choosing the number of groups': all that hangs on Kappa. The concentrations of k groups,
-- from the lengths and the weights of their resultants, at the start of a run and after each of its rounds; and the
-- number of parameters. Definitions only.
use Rattle.std.specs.Prelude.{List, cond, ℕ, ◌+◌, ◌-◌, ◌*◌, get_or, replicate, Float}
use Rattle.std.specs.Float.{nan, binary64}
use Rattle.std.specs.Float.Ieee.{div, lt}
use Rattle.float.specs.Arithmetic.{plus_zero, sum_from}
use Rattle.rows.specs.Tabulate.{tabulate}
use Rattle.bessel.specs.Concentration.{estimate_of}
use Rattle.mixture_kappa.specs.declared.Kappa.{Kappa}
use Rattle.mixture_kappa.specs.declared.Kappa.TheVariants.{Free, Shared}

-- the mean resultant length; 0 where the weight is not above 0
abbrev pub mean_length : (resultant weight : Float) → Float
mean_length resultant weight = cond (lt plus_zero weight) (div binary64 resultant weight) plus_zero

-- the concentration of group c by its own length and weight
abbrev pub kappa_at : (d : ℕ) (lengths totals : List Float) (c : ℕ) → Float
kappa_at d lengths totals c = estimate_of d (mean_length (get_or lengths c nan) (get_or totals c nan))

-- `shared_kappa`: the one concentration by the pooled length, which is added from +0
abbrev pub shared_kappa : (d : ℕ) (pooled weight : Float) → Float
shared_kappa d pooled weight = estimate_of d (mean_length pooled weight)

-- Free: each group its own. Shared: one for all (Hornik and Grün 2014).
abbrev pub kappas_of : Kappa → (k d : ℕ) (lengths totals : List Float) (weight : Float) → List Float
kappas_of Free k d lengths totals weight = tabulate (kappa_at d lengths totals) k
kappas_of Shared k d lengths totals weight = replicate k (shared_kappa d (sum_from plus_zero lengths) weight)

-- p: k·d + k − 1 for Free, k·d for Shared
abbrev pub parameters_of : Kappa → (k d : ℕ) → ℕ
parameters_of Free k d = k * d + k - 1
parameters_of Shared k d = k * d
