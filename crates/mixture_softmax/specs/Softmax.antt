-- Document 01, 'Mixture' (vmf.rs, the E-step): the log-space softmax of the leaves' log densities. Definitions only.
use Rattle.std.specs.Prelude.{List, [], ◌∷◌, true, Float}
use Rattle.std.specs.Float.{inf, binary64}
use Rattle.std.specs.Float.Ieee.{add, sub}
use Rattle.float.specs.Arithmetic.{plus_zero, max_of}
use Rattle.exponential.specs.Exponential.{exp_of}
use Rattle.logarithm.specs.Logarithm.{ln_of}

-- the greatest of g and the elements, by `max` in order
abbrev pub greatest_from : Float → List Float → Float
greatest_from g [] = g
greatest_from g (x ∷ xs) = greatest_from (max_of g x) xs

-- s, with exp(x − g) of each element added in order
abbrev pub exp_sum_from : Float → Float → List Float → Float
exp_sum_from g s [] = s
exp_sum_from g s (x ∷ xs) = exp_sum_from g (add binary64 s (exp_of (sub binary64 x g))) xs

-- g + ln of the sum of exp(x − g), from +0; g is the greatest, from −infinity
abbrev pub log_sum_by : Float → List Float → Float
log_sum_by g row = add binary64 g (ln_of (exp_sum_from g plus_zero row))

unfoldable pub log_sum_exp : List Float → Float
log_sum_exp row = log_sum_by (greatest_from (inf true) row) row

-- exp(x − lse) of each element
abbrev pub shares_of : Float → List Float → List Float
shares_of lse [] = []
shares_of lse (x ∷ xs) = exp_of (sub binary64 x lse) ∷ shares_of lse xs
