-- `kmeans_assign::bounds_by` meets its contract: each answer is a case of `bounds_by` by its tests. Assumes nothing.
use borrow.Author.Tests.{le-ltb}
use lib.Ieee.{neg, div, of_bits}
use Rattle.kmeans_assign.proofs.bounds_by.Goals as goal

pub returns-else-k-gt1 : goal.returns-else-k-gt1
unfolding of_bits neg div
returns-else-k-gt1 c = simp (c.if-o.true, le-ltb 1 _ c.if-k-gt1.false)
