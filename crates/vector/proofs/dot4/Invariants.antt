-- `vector::dot4` meets its contract. The loop's invariant: what is left of each dot from its accumulator is the whole dot. Assumes nothing.
use Rattle.vector.proofs.Fours.{FourGoing}
use Rattle.vector.proofs.dot4.Given as goal

abbrev pub invariant-loop-j : goal.invariant-loop-j
invariant-loop-j l = FourGoing l.x l.p l.q l.r l.s l.a l.b l.c l.e l.j
