-- `kmeans_nearest::with_dots` meets its contract.
use mathlib.Core.Path.{◌≡◌}
use native.Mathlib.Omega.{arith}
use lib.ListN.{length, take}
use lib.Seq.{length-take-le, take-suc}
use lib.Ieee.{nan}
use native.Mathlib.Numerals.{add-one}
use Rattle.kmeans_nearest.proofs.Nearest.{with_more}
use Rattle.kmeans_nearest.proofs.with_dots.Goals as goal

pub loop-i-preserved : goal.loop-i-preserved
loop-i-preserved c =
    let l = c.loop-i in
    let f = c.args.f.now in
    let e : length (take l.i f) ≡ l.i = length-take-le l.i f (omega arith) in
    rw (add-one, take-suc f l.i nan (omega arith), with_more, e, c.better-b.ensures, l.invariant)
