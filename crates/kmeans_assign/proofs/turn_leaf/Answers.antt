-- `turn_leaf` meets its contract where the leaf is given its best centre anyway: its shifted bounds would not be read. Assumes nothing.
use native.Mathlib.Omega.{arith}
use Rattle.kmeans_assign.specs.Lent.{state_in}
use Rattle.kmeans_assign.proofs.Fused.{leaf_anew}
use Rattle.kmeans_assign.proofs.turn_leaf.Goals as goal

pub returns-then-is_spent-clause-passed : goal.returns-then-is_spent-clause-passed
returns-then-is_spent-clause-passed c =
    let a = c.args.a.now in
    let z = a.sized in
    leaf_anew a.coords.now a.shape.k a.shape.d c.args.it c.args.i c.args.t (state_in a) (state_in c.place_leaf.new.a)
    c.place_leaf.result (omega (arith, z.low_long, c.requires)) (omega (arith, z.high_long, c.requires))
    (rw (← c.turns-turns.ensures, ← c.bounds_at-b.ensures) (c.is_spent.ensures c.if-is_spent.true)) c.place_leaf.ensures.placed
