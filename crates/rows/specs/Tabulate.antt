-- The list of a function's values. Definitions only.
use Rattle.std.specs.Prelude.{◌≡◌, List, [], ◌∷◌, ◌++◌, ℕ, zero, suc, ◌<◌}

-- f 0, f 1, .. f (n − 1)
unfoldable pub tabulate : {A : Type 0} → (ℕ → A) → ℕ → List A
tabulate f zero = []
tabulate f (suc n) = tabulate f n ++ (f n ∷ [])

-- a closure's answers at the places below n are this function's
abbrev pub Gives : {A : Type 0} → (ℕ → A → Type 0) → (ℕ → A) → ℕ → Type 0
Gives {A = A} answers f n = (j : ℕ) (x : A) → j < n → answers j x → x ≡ f j
