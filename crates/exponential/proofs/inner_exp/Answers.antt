-- `exponential::inner_exp` meets its contract: what its two calls ensure, put together. Assumes nothing.
use mathlib.Core.Path.{ap, ◌∙◌}
use lib.Ieee.{Float, binary64, mul}
use Rattle.exponential.proofs.Low.{by_inside}
use Rattle.exponential.proofs.inner_exp.Goals as goal

pub returns : goal.returns
returns c =
    let p = c.power-p in
    ap (λ (v : Float). mul binary64 v p.result.w) c.series.ensures
    ∙ by_inside c.args.x p.result.n p.result.w c.requires p.ensures.whole p.ensures.power
