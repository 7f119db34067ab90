-- refresh serves every leaf by the centre of its label: after i turns the first i are served anew and the state is otherwise that of the
-- start. Assumes nothing.
use Rattle.kmeans_update.proofs.Served.{Refreshed}
use Rattle.kmeans_update.proofs.refresh.Given as goal

abbrev pub invariant-loop-i : goal.invariant-loop-i
invariant-loop-i l = Refreshed l.initial.area l.area l.i
