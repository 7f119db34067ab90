-- A call of `spherical_kmeans` that is not refused doubles none: its leaves are within the limits, and no run of such leaves does. Assumes
-- nothing.
use lib.ListN.{length}
use Prim.Native.Nat.{ℕ, max}
use Rattle.counts.proofs.Sums.{none_over}
use Rattle.kmeans_lloyd.proofs.Doubled.{never_doubled}
use Rattle.kmeans_restarts.specs.Restarts.{generator_before}
use Rattle.spherical.specs.Doubled.{CallsNeverDoubled}
use Rattle.spherical.proofs.Refusals.{ready}

pub calls_never_doubled : CallsNeverDoubled
calls_never_doubled weights coords d k rounds restarts seed labels directions work workU32 e =
    let r = ready weights coords d k rounds restarts labels directions work workU32 e in
    none_over _ 0 (max restarts 1)
    (λ (t : ℕ) below above.
    (never_doubled weights coords d k rounds (generator_before weights coords (length weights) k d rounds seed t) r.leaves
    r.sizes.k_some r.k_below).none)
