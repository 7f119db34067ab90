-- `vector::add_scaled` meets its contract. The loop's invariant: in the row as it is, the elements passed, then what is left
-- with w times what is left of x added, are the whole result. Assumes nothing.
use mathlib.Core.Path.{◌≡◌}
use mathlib.Core.List.{◌++◌}
use lib.ListN.{take, drop}
use Rattle.vector.specs.Vectors.{add_scaled}
use Rattle.vector.proofs.add_scaled.Given as goal

abbrev pub invariant-loop-j : goal.invariant-loop-j
invariant-loop-j l =
    let now = l.e-items ++ drop l.n l.fn.row in
    take l.j now ++ add_scaled l.w (drop l.j now) (drop l.j l.x) ≡ add_scaled l.w l.fn.row l.x
