-- What the definition of a pass counts: it makes or saves k products for each leaf. By recursion on the leaves. Assumes nothing.
use mathlib.Core.Path.{◌≡◌}
use mathlib.Core.List.{List}
use Prim.Native.Nat.{ℕ, zero, suc, ◌+◌, ◌*◌}
use native.Mathlib.Nat.{mul-suc}
use native.Mathlib.Omega.{arith}
use lib.Ieee.{Float}
use Rattle.kmeans_bounds.specs.Shifts.{skips}
use Rattle.kmeans_layout.specs.State.{State}
use Rattle.kmeans_assign.specs.Pass.{Pass, bounds_at, pass_up_to}
use Rattle.kmeans_assign.proofs.Cases.{either}

-- products made and saved by a pass over the first n leaves
pub counts_of_pass : (coords : List Float) (k d it : ℕ) (s : State) (n : ℕ)
    → let c = (pass_up_to coords k d it s n).counts in c.made + c.saved ≡ k * n
unfolding pass_up_to
counts_of_pass coords k d it s zero = omega arith
counts_of_pass coords k d it s (suc n) =
    let p = pass_up_to coords k d it s n in
    let e : p.counts.made + p.counts.saved ≡ k * n = counts_of_pass coords k d it s n in
    let f : k * suc n ≡ k * n + k = mul-suc k n in
    either (λ (q : Pass). q.counts.made + q.counts.saved ≡ k * suc n) (skips it (bounds_at p.state n)) _ _ (omega (arith, e, f))
    (omega (arith, e, f))
