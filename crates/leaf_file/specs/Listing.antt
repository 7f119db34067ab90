-- Document 01, 'Leaf file and listing program': the listing's text, in ASCII. Definitions only.
use Rattle.std.specs.Prelude.{List, [], ◌∷◌, ◌++◌, length, get_or, take, replicate}
use Rattle.std.specs.Prelude.{cond, ℕ, zero, suc, ◌+◌, ◌/◌, ◌%◌, ltb, Result, Ok, Err, ⊤}
use Rattle.limits.specs.Refusals.{number_of}
use Rattle.limits.specs.declared.Refusal.{Refusal}
use Rattle.counts.specs.declared.Counts.{Counts}
use Rattle.auto.specs.declared.Chosen.{Chosen}
use Rattle.auto.specs.declared.NotChosen.{NotChosen}
use Rattle.auto.specs.Answers.{number_of_not_chosen}
use Rattle.leaf_file.specs.LeafFile.{Leaves, leaves_fit, file_refusal, leaves_in}

-- ---- numbers

-- the ASCII code of a digit
abbrev pub digit : ℕ → ℕ
digit n = 48 + n

-- a number below 10^places in decimal, without zeros in front
unfoldable pub decimal_in : ℕ → ℕ → List ℕ
decimal_in zero n = []
decimal_in (suc places) n = cond (ltb n 10) (digit n ∷ []) (decimal_in places (n / 10) ++ (digit (n % 10) ∷ []))

-- every number of a listing is below 2^64, so 20 places hold it
abbrev pub decimal : ℕ → List ℕ
decimal n = decimal_in 20 n

-- ---- lines

-- a word and a space
abbrev pub groups_word : List ℕ
groups_word = 103 ∷ 114 ∷ 111 ∷ 117 ∷ 112 ∷ 115 ∷ 32 ∷ []

abbrev pub made_word : List ℕ
made_word = 109 ∷ 97 ∷ 100 ∷ 101 ∷ 32 ∷ []

abbrev pub saved_word : List ℕ
saved_word = 115 ∷ 97 ∷ 118 ∷ 101 ∷ 100 ∷ 32 ∷ []

abbrev pub refused_word : List ℕ
refused_word = 114 ∷ 101 ∷ 102 ∷ 117 ∷ 115 ∷ 101 ∷ 100 ∷ 32 ∷ []

abbrev pub line_end : List ℕ
line_end = 10 ∷ []

-- a word, a space and a number
abbrev pub number_line : List ℕ → ℕ → List ℕ
number_line word n = word ++ (decimal n ++ line_end)

-- a shop: its index and its label
abbrev pub shop_line : ℕ → ℕ → List ℕ
shop_line i label = decimal i ++ ((32 ∷ []) ++ (decimal label ++ line_end))

-- the first n shops
unfoldable pub shop_lines : List ℕ → ℕ → List ℕ
shop_lines labels zero = []
shop_lines labels (suc n) = shop_lines labels n ++ shop_line n (get_or labels n 0)

-- ---- the whole text

abbrev pub refused_text : ℕ → List ℕ
refused_text code = number_line refused_word code

-- chosen k, made, saved, then a line for each shop
abbrev pub groups_text : ℕ → Counts → List ℕ → List ℕ
groups_text k counts labels =
    number_line groups_word k
    ++ (number_line made_word counts.made ++ (number_line saved_word counts.saved
    ++ shop_lines labels (length labels)))

-- these, or a refusal alone
abbrev pub text_of : Result Chosen NotChosen → List ℕ → List ℕ
text_of (Ok c) labels = groups_text c.k c.counts labels
text_of (Err e) labels = refused_text (number_of_not_chosen e)

-- the labels of 64 leaves, before they are filled
abbrev pub blank : List ℕ
blank = replicate 64 0

abbrev pub leaves_text : Leaves → List ℕ
leaves_text l = text_of (leaves_fit l blank).answer (take (length l.weights) (leaves_fit l blank).outputs.labels)

abbrev pub listing_by : Result ⊤ Refusal → Leaves → List ℕ
listing_by (Ok x) l = leaves_text l
listing_by (Err e) l = refused_text (number_of e)

-- the listing of a leaf file
abbrev pub listing : List ℕ → List ℕ
listing bytes = listing_by (file_refusal bytes) (leaves_in bytes)
