-- `mixture_softmax::exp_eight` meets its contract: eight elements read, their exponentials by one call, and stored. Assumes nothing.
use Rattle.std.proofs.Common.{map, get_or, refl, sym, ap, ◌∙◌}
use Rattle.std.proofs.lemmas.List.FromFn.{fill_by_all}
use lib.Ieee.{nan}
use Rattle.exponential.specs.Exponential.{exp_of}
use Rattle.mixture_softmax.proofs.exp_eight.Goals as goal

pub returns : goal.returns
returns c =
    let e = c.args.e.now in
    c.copy_from_slice.ensures.after ∙ c.exp8-f.ensures
    ∙ ap (map exp_of) (sym (fill_by_all (λ k. get_or e k nan) e 8 nan c.requires (λ k h. refl)))
