-- `kmeans_lloyd::start` meets its contract: each part but the centres is filled, then the scales are the norms. Assumes nothing.
use mathlib.Core.Path.{refl}
use lib.Ieee.{div, neg, of_bits, of_int}
use Rattle.kmeans_lloyd.specs.Lloyd.{started_from}
use Rattle.kmeans_lloyd.specs.Runs.{put_scale}
use Rattle.kmeans_lloyd.proofs.start.Goals as goal

pub returns-clause-state : goal.returns-clause-state
unfolding div neg of_bits of_int started_from put_scale
returns-clause-state c =
    let a = c.args.area.now in
    let z = a.sized in
    rw (
      c.leaf_norms.ensures.state,
      c.fill.ensures,
      c.fill-2.ensures,
      c.fill-3.ensures,
      c.fill-4.ensures,
      c.fill-5.ensures,
      z.low_long,
      z.high_long,
      z.served_long,
      z.drift_long,
      z.labels_long,
    ) refl
