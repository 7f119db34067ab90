-- `mixture_outputs::label_of` meets its contract: the place of the greatest is below the row's length, which is k. Assumes nothing.
use mathlib.Core.Path.{◌≡◌, ◌∙◌}
use Prim.Native.Nat.{◌*◌, ◌<◌}
use native.Mathlib.Omega.{arith}
use lib.ListN.{length}
use Rattle.rows.specs.Rows.{row_of}
use Rattle.rows.proofs.Rows.{row_within, length_part}
use Rattle.pick.specs.Places.{argmax_of}
use Rattle.pick.proofs.Places.{argmax_below}
use Rattle.mixture_outputs.proofs.label_of.Goals as goal

pub overflow_cast-result : goal.overflow_cast-result
overflow_cast-result c =
    let a = c.args.found in
    let z = a.shape in
    let i = c.args.i in
    let row = row_of a.responsibilities.now z.k i in
    let is : c.argmax.result ≡ argmax_of row = c.argmax.ensures ∙ rw c.leaf_responsibilities.ensures in
    let long : length row ≡ z.k =
    length_part a.responsibilities.now (i * z.k) z.k (omega (arith, row_within i z.m z.k c.requires, a.sized.responsibilities_long)) in
    let below : argmax_of row < length row = argmax_below row (omega (arith, long, z.sizes.k_some)) in
    omega (arith, is, long, below, z.sizes.k_small)
