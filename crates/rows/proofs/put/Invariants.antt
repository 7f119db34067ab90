-- `rows::put` meets its contract. The loop's invariant: the elements passed are the values. Assumes nothing.
use mathlib.Core.Path.{◌≡◌}
use mathlib.Core.List.{◌++◌}
use Prim.Native.Nat.{ℕ}
use lib.ListN.{length, drop}
use Rattle.rows.specs.Tabulate.{tabulate, Gives}
use Rattle.rows.proofs.put.Given as goal

abbrev pub invariant-loop-j : goal.invariant-loop-j
invariant-loop-j g l =
    (f : ℕ → g.row.T.Denot) → Gives (λ j x. g.F.Fn.post l.value (j, tt) x) f (length l.initial.v)
    → l.v ≡ tabulate f l.j ++ drop l.j l.initial.v
