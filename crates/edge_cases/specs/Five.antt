-- The first five numbers that SplitMix64 gives of a seed. Definitions only.
use Rattle.std.specs.Prelude.{ℕ, zero, suc, List, [], ◌∷◌}
use Rattle.rng.specs.Drawn.{drawn}

-- the state after n draws
abbrev pub after : ℕ → ℕ → ℕ
after zero s = s
after (suc n) s = (drawn (after n s)).state

-- the number of draw n, counted from 0
abbrev pub draw_at : ℕ → ℕ → ℕ
draw_at n s = (drawn (after n s)).out

abbrev pub five_of : ℕ → List ℕ
five_of s = draw_at 0 s ∷ draw_at 1 s ∷ draw_at 2 s ∷ draw_at 3 s ∷ draw_at 4 s ∷ []
