-- What the definition of the rounds counts: a run makes or saves k · m products for each round begun, and begins no more rounds
-- than it may. By recursion on the rounds. Assumes nothing.
use mathlib.Core.Path.{◌≡◌}
use mathlib.Core.List.{List}
use Prim.Native.Nat.{ℕ, zero, suc, ◌+◌, ◌*◌, ◌≤◌}
use native.Mathlib.Nat.{mul-suc}
use native.Mathlib.Numerals.{add-one}
use native.Mathlib.Omega.{arith}
use lib.Ieee.{Float}
use Rattle.kmeans_assign.specs.Pass.{pass_of, shifted_for}
use Rattle.kmeans_lloyd.specs.Lloyd.{Run, ends_at, after_pass, after_update, rounds_from}
use Rattle.kmeans_update.specs.Update.{update_of}
use Rattle.kmeans_assign.proofs.Cases.{either}
use Rattle.kmeans_assign.proofs.Tallies.{counts_of_pass}

-- a round more
round_counts : (km a b x y n : ℕ) → a + b ≡ km * n → x + y ≡ km → a + x + (b + y) ≡ km * (n + 1)
round_counts km a b x y n e f =
    let g : km * (n + 1) ≡ km * n + km = rw add-one (mul-suc km n) in
    omega (arith, e, f, g)

pub counts_of_rounds : (weights coords : List Float) (m k d n it : ℕ) (r : Run) → r.counts.made + r.counts.saved ≡ k * m * r.begun
    → let q = rounds_from weights coords m k d n it r in q.counts.made + q.counts.saved ≡ k * m * q.begun
unfolding rounds_from
counts_of_rounds weights coords m k d zero it r e = e
counts_of_rounds weights coords m k d (suc n) it r e =
    let p = pass_of coords m k d it r.state in
    let f : r.counts.made + p.counts.made + (r.counts.saved + p.counts.saved) ≡ k * m * (r.begun + 1) =
    round_counts (k * m) r.counts.made r.counts.saved p.counts.made p.counts.saved r.begun e
    (counts_of_pass coords k d it (shifted_for m k it r.state) m) in
    either (λ (x : Run). x.counts.made + x.counts.saved ≡ k * m * x.begun) (ends_at it p) (after_pass r p) _ f
    (counts_of_rounds weights coords m k d n (it + 1) (after_update (after_pass r p) (update_of weights coords m k d p.state)) f)

-- at most n rounds more are begun
pub begun_most : (weights coords : List Float) (m k d n it : ℕ) (r : Run) → (rounds_from weights coords m k d n it r).begun ≤ r.begun + n
unfolding rounds_from
begun_most weights coords m k d zero it r = omega arith
begun_most weights coords m k d (suc n) it r =
    let p = pass_of coords m k d it r.state in
    let next = after_update (after_pass r p) (update_of weights coords m k d p.state) in
    let most : (rounds_from weights coords m k d n (it + 1) next).begun ≤ r.begun + 1 + n =
    begun_most weights coords m k d n (it + 1) next in
    either (λ (x : Run). x.begun ≤ r.begun + suc n) (ends_at it p) (after_pass r p) (rounds_from weights coords m k d n (it + 1) next)
    (omega arith) (omega (arith, most))
