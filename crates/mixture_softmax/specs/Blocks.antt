-- What the inner functions ask and promise one another, a block of leaves at a time.
-- No definition of document 01 stands on this file.
use Rattle.std.specs.Prelude.{◌≡◌, List, true, map, ℕ, ◌*◌, ◌≤◌, Float}
use Rattle.std.specs.Float.{inf, binary64}
use Rattle.std.specs.Float.Ieee.{add, sub}
use Rattle.float.specs.Arithmetic.{plus_zero, sum_from}
use Rattle.logarithm.specs.Logarithm.{ln_of}
use Rattle.rows.specs.Rows.{row_of}
use Rattle.mixture_softmax.specs.Softmax.{greatest_from}
use Rattle.mixture_softmax.specs.Leaves.{joined, weighed}

-- x − g of each element
abbrev pub less_by : Float → List Float → List Float
less_by g row = map (λ (x : Float). sub binary64 x g) row

-- a row less its greatest, and the first n rows
abbrev pub from_greatest : List Float → List Float
from_greatest row = less_by (greatest_from (inf true) row) row

module _ (k : ℕ) (rows : List Float) where
  abbrev pub from_greatest_at : ℕ → List Float
  from_greatest_at i = from_greatest (row_of rows k i)

  abbrev pub from_greatests : ℕ → List Float
  from_greatests n = joined from_greatest_at n

-- the log-sum of a row by the exponentials e of what it is less its greatest
abbrev pub log_sum_over : List Float → List Float → Float
log_sum_over row e = add binary64 (greatest_from (inf true) row) (ln_of (sum_from plus_zero e))

module _ (k : ℕ) (rows e : List Float) where
  abbrev pub log_over_at : ℕ → Float
  log_over_at i = log_sum_over (row_of rows k i) (row_of e k i)

  -- row i less that, and the first n rows; the log-sums weighed
  abbrev pub from_log_at : ℕ → List Float
  from_log_at i = less_by (log_over_at i) (row_of rows k i)

  abbrev pub from_logs : ℕ → List Float
  from_logs n = joined from_log_at n

  abbrev pub logs_over : (weights : List Float) → Float → ℕ → Float
  logs_over weights l n = weighed log_over_at weights l n

-- the m rows of a block, and room for as many
pub record Beside (e rows m k : ℕ) : Type 0 where
  pub rows_long : rows ≡ m * k
  pub rows_small : rows ≤ 256
  pub e_long : rows ≤ e

pub record Block (rows weights k : ℕ) : Type 0 where
  pub rows_long : rows ≡ weights * k
  pub rows_small : rows ≤ 256
