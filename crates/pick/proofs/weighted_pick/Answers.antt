-- `pick::weighted_pick` meets its contract, by what its calls ensure: with a total at or below 0 the draw modulo the length, else the pick
-- by a fraction of the total. Each return is a law over plain values. Assumes nothing.
use mathlib.Core.Path.{◌≡◌}
use mathlib.Core.List.{List}
use mathlib.Core.Bool.{true, false}
use Prim.Native.Nat.{ℕ, ◌%◌, max}
use native.Mathlib.Omega.{arith}
use lib.ListN.{length}
use lib.Ieee.{Float, binary64, mul, le, of_bits}
use Rattle.float.specs.Arithmetic.{minus_zero, plus_zero, sum_from}
use Rattle.rng.specs.SplitMix.{unit_of}
use Rattle.rng.specs.Drawn.{drawn}
use Rattle.rng.specs.declared.Drawn.{Drawn}
use Rattle.pick.specs.Pick.{pick_from, pick_of}
use Rattle.pick.specs.declared.Picked.{Picked}
use Rattle.pick.proofs.weighted_pick.Goals as goal

module _ (ws : List Float) (generator : ℕ) (total : Float) (d : Drawn ℕ) (sums : total ≡ sum_from minus_zero ws)
    (draws : d ≡ drawn generator) where
  low : (most : ℕ) → most ≡ max (length ws) 1 → le total plus_zero ≡ true
      → ◌≡◌ {A = Picked} (record { index = d.out % most; generator = d.state }) (pick_of ws generator)
  low most m t = rw (draws, m, ← sums, t)

  high : (u : Float) (i : ℕ) → u ≡ unit_of d.out → i ≡ pick_from (mul binary64 u total) 0 ws → le total plus_zero ≡ false
      → ◌≡◌ {A = Picked} (record { index = i; generator = d.state }) (pick_of ws generator)
  high u i f p t = rw (p, f, draws, ← sums, t)

pub returns-then-total : goal.returns-then-total
unfolding of_bits
returns-then-total c =
    let x = c.args in
    low x.w.now x.generator c.sum-total.result c.draw-drawn.result c.sum-total.ensures c.draw-drawn.ensures c.max.result
    (omega arith) c.if-total.true

pub returns : goal.returns
unfolding of_bits
returns c =
    let x = c.args in
    high x.w.now x.generator c.sum-total.result c.draw-drawn.result c.sum-total.ensures c.draw-drawn.ensures c.unit_f64.result
    c.pick_at.result
    c.unit_f64.ensures
    c.pick_at.ensures
    c.if-total.false
