-- Document 01, 'SplitMix64': `weighted_pick`, with the generator after it. Definitions only.
use Rattle.std.specs.Prelude.{List, [], ◌∷◌, cond, ℕ, suc, ◌-◌, ◌%◌, max, length, Float}
use Rattle.std.specs.Float.{binary64}
use Rattle.std.specs.Float.Ieee.{sub, mul, le}
use Rattle.float.specs.Arithmetic.{minus_zero, plus_zero, sum_from}
use Rattle.rng.specs.SplitMix.{step_of, mix_of, unit_of}
use Rattle.pick.specs.declared.Picked.{Picked}

-- the weights, the first of which has place i, are taken off t in order; the first place with t ≤ 0, else the last
unfoldable pub pick_from : (t : Float) (i : ℕ) (ws : List Float) → ℕ
pick_from t i [] = i - 1
pick_from t i (w ∷ ws) = cond (le (sub binary64 t w) plus_zero) i (pick_from (sub binary64 t w) (suc i) ws)

-- A total at or below 0 spends one draw modulo the length. Otherwise t is a fraction of the total.
abbrev pub pick_by : (total : Float) (ws : List Float) (out : ℕ) → ℕ
pick_by total ws out =
    cond (le total plus_zero) (out % max (length ws) 1) (pick_from (mul binary64 (unit_of out) total) 0 ws)

abbrev pub pick_of : (ws : List Float) (generator : ℕ) → Picked
pick_of ws generator =
    let next = step_of generator in
    record { index = pick_by (sum_from minus_zero ws) ws (mix_of next); generator = next }
