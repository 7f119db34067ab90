-- `root::positive_roots` meets its contract. The loop's invariant: the places of all roots from the one worth `top` down are open.
-- Assumes nothing.
use Rattle.std.specs.List.{AllZip}
use Rattle.root.specs.Steps.{Open}
use Rattle.root.proofs.positive_roots.Given as goal

abbrev pub invariant-loop-top : goal.invariant-loop-top
invariant-loop-top g l = AllZip (λ v s. Open v l.top s) l.fn.x l.s

abbrev pub decreases-loop-top : goal.decreases-loop-top
decreases-loop-top g l = l.top
