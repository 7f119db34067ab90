-- `put_norms` meets its contract: `put` writes the norm of each sum. Assumes nothing.
use mathlib.Core.Path.{ap, ◌∙◌}
use mathlib.Core.List.{List}
use lib.Ieee.{Float}
use borrow.Author.Rules.{rules}
use Rattle.mixture_run.specs.Areas.{parts_of, with_norms}
use Rattle.mixture_run.proofs.Directions.{norm_at, norms_are}
use Rattle.mixture_run.proofs.maximization.put_norms.Goals as goal

pub returns-clause-parts : goal.returns-clause-parts
returns-clause-parts c =
    let a = c.args.area.now in
    let z = a.shape in
    ap (λ (l : List Float). with_norms l (parts_of a))
    (c.put.ensures (norm_at a.sums.now z.d) (λ j x h e. search rules) ∙ rw a.sized.norms_long (norms_are a.sums.now z.d z.k))
