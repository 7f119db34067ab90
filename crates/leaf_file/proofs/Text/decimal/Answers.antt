-- `leaf_file::Text::decimal` meets its contract: the library's decimal is that of the definition. Assumes nothing.
use mathlib.Core.Path.{subst, ◌∙◌}
use mathlib.Core.List.{List}
use Prim.Native.Nat.{ℕ}
use native.Mathlib.Omega.{arith}
use Rattle.leaf_file.specs.Texts.{Grown}
use Rattle.leaf_file.proofs.Growing.{decimal_same}
use Rattle.leaf_file.proofs.Text.decimal.Goals as goal

pub returns-clause-grown : goal.returns-clause-grown
returns-clause-grown c =
    let a = c.args in
    let same = decimal_same 19 a.n (omega (arith, c.ranges.n)) (omega (arith, c.ranges.n)) in
    subst (λ (x : List ℕ). Grown x a.self.now c.word.new.self) (c.as_bytes.ensures.value ∙ c.format.ensures.text ∙ same) c.word.ensures
