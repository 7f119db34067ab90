-- A call of `movmf_auto_with` that is not refused doubles none: each number tried is at least 1 and at most the leaves, which are within
-- the limits. Assumes nothing.
use Prim.Native.Nat.{ℕ, ◌+◌, ◌-◌, ◌≤◌, ◌<◌}
use mathlib.Core.Path.{refl}
use native.Mathlib.Omega.{arith}
use lib.ListN.{length}
use Rattle.auto_choice.specs.Choice.{highest, lowest}
use Rattle.limits.proofs.Limits.{sizes_met}
use Rattle.counts.proofs.Sums.{none_over}
use Rattle.mixture_restarts.proofs.Doubled.{fit_never_doubled}
use Rattle.auto.specs.Doubled.{CallsNeverDoubled}
use Rattle.auto.proofs.Outcomes.{highest_some, lowest_some, admitted}

-- the last number tried is at most the leaves
in_range : (kMin kMax m k : ℕ) → 1 ≤ m → k < lowest kMin (highest kMax m) + (highest kMax m + 1 - lowest kMin (highest kMax m)) → k ≤ m
in_range kMin kMax m k h l = omega arith

pub calls_never_doubled : CallsNeverDoubled
calls_never_doubled weights coords d kMin kMax s l e =
    let m = length weights in
    let hi = highest kMax m in
    let lo = lowest kMin hi in
    let ok = (admitted weights coords d hi s l (highest_some kMax m hi refl) e).leaves in
    let some = (sizes_met m d (length coords) ok.sizes_ok_law).0 in
    let first = lowest_some kMin hi lo refl (highest_some kMax m hi refl) in
    none_over _ lo (hi + 1 - lo)
    (λ (k : ℕ) least most. fit_never_doubled s weights coords d k ok (omega (arith, first)) (in_range kMin kMax m k some most))
