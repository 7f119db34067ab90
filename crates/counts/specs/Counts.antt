-- Document 01, 'Leaves, settings, fit': made and saved, each summed over the whole call. Definitions only.
use Rattle.std.specs.Prelude.{ℕ, zero, suc, ◌+◌, ◌*◌, ◌≤◌}
use Rattle.counts.specs.declared.Counts.{Counts}

-- before the first pass
abbrev pub no_counts : Counts
no_counts = record { made = 0; saved = 0 }

-- those of two parts of a call together
abbrev pub plus_of : Counts → Counts → Counts
plus_of a b = record { made = a.made + b.made; saved = a.saved + b.saved }

-- f lo + .. + f (lo + n − 1)
unfoldable pub sum_over : (ℕ → ℕ) → ℕ → ℕ → ℕ
sum_over f lo zero = 0
sum_over f lo (suc n) = sum_over f lo n + f (lo + n)

-- the counts of lo to lo + n − 1 added up
abbrev pub counts_over : (ℕ → Counts) → ℕ → ℕ → Counts
counts_over f lo n = record { made = sum_over (λ (j : ℕ). (f j).made) lo n; saved = sum_over (λ (j : ℕ). (f j).saved) lo n }

-- ---- how large they get, which no definition of document 01 stands on: no sum of a call wraps

-- both at most so much
pub record AtMost (most : ℕ) (c : Counts) : Type 0 where
  pub made : c.made ≤ most
  pub saved : c.saved ≤ most

-- a round's: 4,096 leaves and 64 centres. A run has at most 10,000 rounds, a call at most 256 runs, the four of each of
-- 64 numbers of groups.
abbrev pub of_round : ℕ
of_round = 262144

abbrev pub of_runs : ℕ → ℕ
of_runs n = n * 2621440000

abbrev pub of_call : ℕ
of_call = 671088640000
