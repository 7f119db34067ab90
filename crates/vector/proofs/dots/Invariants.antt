-- `vector::dots` meets its contract. The outer loop's invariant: of each dot the first j products are in its accumulator. The inner one's: of
-- the dots before c one more. Assumes nothing.
use Rattle.vector.proofs.DotTurns.{Going, Turning}
use Rattle.vector.proofs.dots.Given as goal

abbrev pub invariant-loop-j : goal.invariant-loop-j
invariant-loop-j g l = Going l.x l.rows l.d g.row.N l.s l.j

abbrev pub invariant-loop-c : goal.invariant-loop-c
invariant-loop-c g l = Turning l.x l.rows l.d g.row.N l.t-items l.j l.c
