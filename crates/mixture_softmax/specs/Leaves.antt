-- What `log_softmax_rows` asks and promises: the softmax of many leaves, over rows of k elements each.
-- No definition of document 01 stands on this file.
use Rattle.std.specs.Prelude.{◌≡◌, List, [], ◌++◌, ℕ, zero, suc, ◌*◌, ◌≤◌, ◌<◌, get_or, Float}
use Rattle.std.specs.Float.{nan, binary64}
use Rattle.std.specs.Float.Ieee.{add, mul}
use Rattle.rows.specs.Rows.{row_of}
use Rattle.mixture_softmax.specs.Softmax.{log_sum_exp, shares_of}

-- f 0, f 1, .. f (n − 1), joined
unfoldable pub joined : (ℕ → List Float) → ℕ → List Float
joined f zero = []
joined f (suc i) = joined f i ++ f i

-- l, with weight · f of the first n leaves added in order
unfoldable pub weighed : (ℕ → Float) → List Float → Float → ℕ → Float
weighed f weights l zero = l
weighed f weights l (suc i) = add binary64 (weighed f weights l i) (mul binary64 (get_or weights i nan) (f i))

module _ (k : ℕ) (rows : List Float) where
  -- of row i: its log-sum, and its shares
  abbrev pub log_sum_at : ℕ → Float
  log_sum_at i = log_sum_exp (row_of rows k i)

  abbrev pub shares_at : ℕ → List Float
  shares_at i = shares_of (log_sum_at i) (row_of rows k i)

  -- the shares of the first n rows, row by row
  abbrev pub shares_up_to : ℕ → List Float
  shares_up_to n = joined shares_at n

  -- l, with weight · log-sum of the first n rows added in order
  abbrev pub logs_up_to : (weights : List Float) → Float → ℕ → Float
  logs_up_to weights l n = weighed log_sum_at weights l n

-- what `log_softmax_rows` asks of the lengths
pub record LeafRows (rows weights k : ℕ) : Type 0 where
  pub k_some : 0 < k
  pub k_small : k ≤ 64
  pub weights_small : weights ≤ 4096
  pub rows_long : rows ≡ weights * k
