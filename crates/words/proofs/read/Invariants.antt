-- `words::read` meets its contract. The loop's invariant: the words read, and behind them those of what is left of the text, are the text's
-- words. Assumes nothing.
use mathlib.Core.Path.{◌≡◌}
use mathlib.Core.List.{◌++◌}
use Prim.Native.Nat.{◌≤◌}
use lib.ListN.{length, take, drop}
use Rattle.words.specs.Words.{words_from, words_of}
use Rattle.words.proofs.read.Given as goal

abbrev pub invariant-loop-b : goal.invariant-loop-b
invariant-loop-b l =
    (length l.to ≡ length l.initial.to) × (l.n ≤ length l.to) × (l.b-index ≤ length l.text)
    × (take l.n l.to ++ words_from l.x (drop l.b-index l.text) ≡ words_of l.text)
