-- `mixture_softmax::less` meets its contract: the differences, place by place, are the row less g. Assumes nothing.
use mathlib.Core.Path.{sym, ◌∙◌}
use mathlib.Core.List.{map}
use Prim.Native.Nat.{ℕ}
use lib.ListN.{length-map, get_or}
use lib.Ieee.{Float, nan, binary64, sub}
use borrow.Author.Rules.{rules}
use Rattle.std.proofs.lemmas.List.{get_or-map}
use Rattle.rows.proofs.Tabulate.{tabulate_is}
use Rattle.mixture_softmax.proofs.less.Goals as goal

pub returns : goal.returns
returns c =
    let row = c.args.row.now in
    let f : Float → Float = λ x. sub binary64 x c.args.g in
    let at : ℕ → Float = λ j. f (get_or row j nan) in
    c.put.ensures at (λ j x h r. search rules)
    ∙ sym (tabulate_is at (map f row) _ nan (length-map row f ∙ sym c.requires.same)
    (λ i h. get_or-map f row i nan nan (rw (← c.requires.same) h)))
