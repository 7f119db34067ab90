-- `root::begin` meets its contract: the digits of x, with one place more where the exponent is odd, are its radicand without 52 zeros.
-- Assumes nothing.
use Rattle.std.proofs.Common.{T, sym, subst}
use Rattle.float.proofs.Parts.{in_whole}
use Rattle.root.proofs.RootOf.{begun}
use Rattle.root.proofs.begin.Goals as goal

-- what owning an `f64` tells is that the format holds it
pub returns : goal.returns
returns c =
    let s = c.split-s in
    let x = c.args.x in
    begun x s.result.m s.result.e s.ensures (in_whole x c.requires (subst T (sym c.well_formed.0.1) tt)) c.requires
