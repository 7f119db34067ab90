-- The functions that examples are of, and the kinds that name them. Definitions only.
use Rattle.std.specs.Prelude.{cond, ℕ, eqb, Float}
use Rattle.float.specs.Arithmetic.{max_of, clamp_of, abs_of}
use Rattle.root.specs.Root.{root_of}
use Rattle.exponential.specs.Exponential.{exp_of}
use Rattle.logarithm.specs.Logarithm.{ln_of}
use Rattle.words.specs.declared.Operation.{Operation}
use Rattle.words.specs.declared.Operation.TheVariants.{Root, Exp, Ln, Max, Clamp, Abs}

-- the function that a kind of example names: 1 to 5, and abs for any other
abbrev pub operation_of : ℕ → Operation
operation_of kind =
    cond (eqb kind 1) Root
    (cond (eqb kind 2) Exp
    (cond (eqb kind 3) Ln
    (cond (eqb kind 4) Max
    (cond (eqb kind 5) Clamp Abs))))

-- what a function gives
abbrev pub arithmetic_of : Operation → (x y z : Float) → Float
arithmetic_of Root x y z = root_of x
arithmetic_of Exp x y z = exp_of x
arithmetic_of Ln x y z = ln_of x
arithmetic_of Max x y z = max_of x y
arithmetic_of Clamp x y z = clamp_of x y z
arithmetic_of Abs x y z = abs_of x
