-- A draw as the functions hand it back: the state moved on, beside what was drawn. Definitions only.
use Rattle.std.specs.Prelude.{ℕ, Float}
use Rattle.rng.specs.declared.Drawn.{Drawn}
use Rattle.rng.specs.SplitMix.{step_of, mix_of, unit_of}

-- what is drawn is made of the number
abbrev pub drawn_as : {A : Type 0} → (ℕ → A) → ℕ → Drawn A
drawn_as f s = record { state = step_of s; out = f (mix_of (step_of s)) }

-- the number itself, and the fraction
abbrev pub drawn : ℕ → Drawn ℕ
drawn = drawn_as (λ x. x)

abbrev pub drawn_f64 : ℕ → Drawn Float
drawn_f64 = drawn_as unit_of
