-- What a page of the list is once the words that were read to it are let go. Definitions only.
use Rattle.std.specs.Prelude.{◌≡◌, ℕ, List, Result, length, take, IfOk, OnErr}
use Rattle.std.specs.Borrow.{Bor, Fml, MutBor}
use Rattle.std.specs.Io.BufRead.{Rests}
use Rattle.words.specs.Words.{Counted}
use Rattle.replay.specs.declared.Page.{Page}
use Rattle.replay.specs.contracts.Page.{the_row}

-- the words that are handed back are the page's first ones, and an error leaves its words as they were
abbrev pub HandsWords : {E : Type 0} → MutBor Page → Result (Bor (List ℕ)) E → Fml
HandsWords page r =
    Rests the_row page
    (λ last.
    IfOk r (λ words. Counted (length words.now) last.words × (words.now ≡ take (length words.now) last.words))
    × OnErr r (last.words ≡ page.now.words))
