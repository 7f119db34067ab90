-- What the programs that run lists of examples read: the words of a text, and the lists among them. Definitions
-- only.
use Rattle.std.specs.Prelude.{◌≡◌, cond, List, [], ◌∷◌, length, take, get_or, Float}
use Rattle.std.specs.Prelude.{ℕ, suc, ◌+◌, ◌-◌, ◌*◌, ◌/◌, ◌%◌, ◌^◌, ◌<◌, ◌≤◌, min, eqb, ltb}
use Rattle.std.specs.Float.{binary64}
use Rattle.std.specs.Float.Ieee.{of_bits}
use Rattle.rows.specs.Tabulate.{tabulate}
use Rattle.words.specs.declared.Bytes.{Bytes}
use Rattle.words.specs.declared.Layout.{Layout}
use Rattle.words.specs.declared.Layout.TheVariants.{Packed, Spread}

-- n counts elements at the start of an array. The second part follows from the first; both are stated, since lending
-- that part of the array asks for both
abbrev pub Counted : {A : Type 0} → ℕ → List A → Type 0
Counted n xs = (n ≤ length xs) × (n ≡ length (take n xs))

-- the value of a hexadecimal digit; 16 for any other byte
unfoldable pub digit_of : ℕ → ℕ
digit_of b = cond (ltb b 48) 16 (cond (ltb b 58) (b - 48) (cond (ltb b 97) 16 (cond (ltb b 103) (b - 87) 16)))

-- the words of a text, behind digits of the value x: a digit goes on with the word, modulo 2^64, and any other byte
-- ends it
abbrev pub words_from : ℕ → List ℕ → List ℕ
words_from x [] = []
words_from x (b ∷ bs) =
    cond (ltb (digit_of b) 16) (words_from (x % 1152921504606846976 * 16 + digit_of b) bs) (x ∷ words_from 0 bs)

abbrev pub words_of : List ℕ → List ℕ
words_of = words_from 0

-- the place of the first byte b, the length where there is none
abbrev pub place_of : ℕ → List ℕ → ℕ
place_of b [] = 0
place_of b (x ∷ xs) = cond (eqb x b) 0 (suc (place_of b xs))

-- the sum of two places, each modulo 2^32
abbrev pub plus_of : ℕ → ℕ → ℕ
plus_of a b = a % 4294967296 + b % 4294967296

-- element j of the list from word `from` on, of which elements 0 to `last` are written; the last of them stands for
-- the rest
abbrev pub element_of : List ℕ → (from last j : ℕ) → ℕ
element_of words from last j = get_or words (plus_of from (min j last)) 0

-- the first elements of that list, as patterns
abbrev pub values_up_to : List ℕ → (from last n : ℕ) → List Float
values_up_to words from last n = tabulate (λ j. of_bits binary64 (element_of words from last j)) n

-- byte j of a list of bytes, which are packed eight to a word, the first lowest, or stand one to a word; and the first
abbrev pub byte_in : List ℕ → (from : ℕ) → Layout → ℕ → ℕ
byte_in words from Packed j = get_or words (plus_of from (j / 8)) 0 / 2 ^ (j % 8 * 8) % 256
byte_in words from (Spread last) j = element_of words from last j % 256

abbrev pub byte_of : List ℕ → Bytes → ℕ → ℕ
byte_of words list j = byte_in words list.from list.layout j

abbrev pub bytes_up_to : List ℕ → Bytes → ℕ → List ℕ
bytes_up_to words list n = tabulate (byte_of words list) n

-- place j of an array, where the list's first n bytes stand at its start and the rest is still 7
abbrev pub due_at : List ℕ → Bytes → (n j : ℕ) → ℕ
due_at words list n j = cond (ltb j n) (byte_of words list j) 7

-- the whole list is the array's first n bytes, and the rest is still 7
pub record AreBytes (v : List ℕ) (n : ℕ) (words : List ℕ) (list : Bytes) : Type 0 where
  pub whole : n ≡ list.count
  pub each : (j : ℕ) → j < length v → get_or v j 0 ≡ due_at words list n j
