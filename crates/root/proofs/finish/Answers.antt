-- `root::finish` meets its contract: with no place open, a quarter of the step is the root's whole part, and what is left says which
-- neighbour is nearer. The tests' facts go through `omega`, so that a wrong test is refused on the side on which it is wrong.
-- Assumes nothing.
use Rattle.std.proofs.Common.{◌∙◌, arith}
use Rattle.root.proofs.WholeRoots.{ended_up, ended_down}
use Rattle.root.proofs.RootOf.{root_is}
use Rattle.root.proofs.finish.Goals as goal

pub compose-requires : goal.compose-requires
compose-requires c =
    let o = c.requires.none in
    let n = ended_up o (omega (arith, c.if-y-s.true)) in
    (n.first, n.last, o.scaled.high)

pub compose-requires-else-y-s : goal.compose-requires-else-y-s
compose-requires-else-y-s c =
    let o = c.requires.none in
    let n = ended_down o (omega (arith, c.if-y-s.false)) in
    (n.first, n.last, o.scaled.high)

pub returns-then-y-s : goal.returns-then-y-s
returns-then-y-s c x o = c.compose.ensures ∙ root_is x o.scaled (ended_up o (omega (arith, c.if-y-s.true)))

pub returns-else-y-s : goal.returns-else-y-s
returns-else-y-s c x o = c.compose-else-y-s.ensures ∙ root_is x o.scaled (ended_down o (omega (arith, c.if-y-s.false)))
