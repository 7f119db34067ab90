-- The groups of the rounds with the same sizes, leaves and arrays: so they are at first, and so they stay from one call to the next.
-- Assumes nothing.
use mathlib.Core.Path.{refl, ◌∙◌}
use Rattle.mixture_run.specs.Areas.{SameGroups}
use Rattle.mixture_run.specs.declared.layout.Groups.{Groups}

pub same_here : (a : Groups) → SameGroups a a
same_here a = (refl, refl, (refl, refl, refl, refl, refl, refl, refl, refl))

pub same_then : (a b c : Groups) → SameGroups a b → SameGroups b c → SameGroups a c
same_then a b c s t =
    let u = t.2 in
    let v = s.2 in (
      t.0 ∙ s.0,
      t.1 ∙ s.1,
      (u.0 ∙ v.0, u.1 ∙ v.1, u.2 ∙ v.2, u.3 ∙ v.3, u.4 ∙ v.4, u.5 ∙ v.5, u.6 ∙ v.6, u.7 ∙ v.7),
    )
