-- `words::place_of` meets its contract. The loop's invariant: the first place in what is left is the first from `from` on. Assumes nothing.
use mathlib.Core.Path.{◌≡◌}
use Prim.Native.Nat.{◌+◌}
use lib.ListN.{drop}
use Rattle.words.specs.Words.{place_of}
use Rattle.words.proofs.place_of.Given as goal

abbrev pub invariant-loop-i : goal.invariant-loop-i
invariant-loop-i l = l.i + place_of l.b (drop l.i l.text) ≡ l.from + place_of l.b (drop l.from l.text)
