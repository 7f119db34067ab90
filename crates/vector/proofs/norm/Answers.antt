-- `vector::norm` meets its contract: the dot product and its root, by what each ensures. Assumes nothing.
use Rattle.vector.proofs.norm.Goals as goal

pub returns : goal.returns
returns c = cc
