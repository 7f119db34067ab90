-- What the code answers after the last number. No definition of document 01 stands on this file.
use Rattle.std.specs.Prelude.{Option, Some, None, Result, Ok, Err}
use Rattle.counts.specs.declared.Counts.{Counts}
use Rattle.auto_tries.specs.declared.Kept.{Kept}
use Rattle.auto_tries.specs.declared.Tally.{Tally}
use Rattle.auto.specs.declared.Chosen.{Chosen}
use Rattle.auto.specs.declared.NotChosen.{NotChosen}
use Rattle.auto.specs.declared.NotChosen.TheVariants.{Unscored}

abbrev pub answer_from : Option Kept → Counts → Result Chosen NotChosen
answer_from None counts = Err (Unscored counts)
answer_from (Some n) counts =
    Ok (record { k = n.number.k; loglik = n.loglik; score = n.number.score; counts = counts })

abbrev pub answer_of : Tally → Result Chosen NotChosen
answer_of t = answer_from t.kept t.counts
