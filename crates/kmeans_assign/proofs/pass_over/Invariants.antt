-- The invariant of `pass_over`: state and answer are the definition's pass over the leaves before i, of the state with the bounds of just
-- those shifted, if there are drifts, and the parts are the same. Assumes nothing.
use Rattle.std.specs.Prelude.{◌≡◌}
use Rattle.kmeans_assign.specs.Lent.{state_in, SameParts}
use Rattle.kmeans_assign.specs.Pass.{pass_up_to}
use Rattle.kmeans_assign.specs.Turns.{passed, shift_by}
use Rattle.kmeans_assign.proofs.pass_over.Given as goal

abbrev pub invariant-loop-i : goal.invariant-loop-i
invariant-loop-i l =
    let a = l.initial.a in
    let k = a.shape.k in
    (SameParts a l.a)
    × (passed (state_in l.a) l.p ≡ pass_up_to a.coords.now k a.shape.d l.it (shift_by k l.drifts (state_in a) l.i) l.i)
