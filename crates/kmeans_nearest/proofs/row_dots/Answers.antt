-- `kmeans_nearest::row_dots` meets its contract: the part that is lent is the rows from c on, and their dots are what `dots` ensures.
-- Assumes nothing.
use mathlib.Core.Path.{◌≡◌, ap, ◌∙◌}
use Prim.Native.Nat.{ℕ, ◌+◌, ◌*◌, ◌-◌}
use native.Mathlib.Omega.{arith}
use Rattle.rows.specs.Rows.{part, row_of}
use Rattle.rows.proofs.Rows.{row_part}
use Rattle.rows.proofs.Tabulate.{tabulate_same}
use Rattle.vector.specs.Vectors.{dot_of}
use Rattle.vector.specs.Dots.{dots_of}
use Rattle.kmeans_nearest.proofs.row_dots.Goals as goal

pub returns : goal.returns
returns g c =
    let a = c.args in
    let n = g.row.N in
    let at = a.c * a.d in
    let long : at + n * a.d - at ≡ n * a.d = omega arith in
    c.dots.ensures ∙ ap (λ (p : ℕ). dots_of a.x.now (part a.centers.now at p) a.d n) long
    ∙ tabulate_same (λ (e : ℕ). dot_of a.x.now (row_of (part a.centers.now at (n * a.d)) a.d e)) _ n
    (λ e h. ap (dot_of a.x.now) (row_part a.centers.now a.d a.c n e h))
