-- `auto_choice::beats` meets its contract: the held score is what the call ensures. Assumes nothing.
use mathlib.Core.Path.{ap}
use lib.Ieee.{Float, lt}
use Rattle.auto_choice.proofs.beats.Goals as goal

pub returns : goal.returns
returns c = ap (λ (h : Float). lt c.args.score h) c.held_score.ensures
