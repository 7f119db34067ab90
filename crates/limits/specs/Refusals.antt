-- Document 01, 'Refusals by call': the refusals, their numbers, and their order. Definitions only.
use Rattle.std.specs.Prelude.{Bool, true, false, ℕ, Result, Ok, Err, ⊤}
use Rattle.limits.specs.declared.Refusal.{Refusal}
use Rattle.limits.specs.declared.Refusal.TheVariants.{Sizes, Groups, Rounds, Arrays, Weight, Coordinate}
use Rattle.limits.specs.declared.Refusal.TheVariants.{FileLength, FileSizes, Kappa}

abbrev pub number_of : Refusal → ℕ
number_of Sizes = 1
number_of Groups = 2
number_of Rounds = 3
number_of Arrays = 4
number_of Weight = 5
number_of Coordinate = 6
number_of FileLength = 8
number_of FileSizes = 9
number_of Kappa = 13

-- 0 where nothing is refused
abbrev pub number_in : Result ⊤ Refusal → ℕ
number_in (Ok x) = 0
number_in (Err e) = number_of e

-- the refusal where the condition fails, else what the later ones say
abbrev pub need : Bool → Refusal → Result ⊤ Refusal → Result ⊤ Refusal
need true e rest = rest
need false e rest = Err e
