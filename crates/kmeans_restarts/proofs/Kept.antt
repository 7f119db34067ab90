-- A restart more: what is held after it is what the definition keeps. By the way that the test went. Assumes nothing.
use mathlib.Core.Path.{◌≡◌, refl, ◌∙◌}
use mathlib.Core.Bool.{Bool, true, false, cond}
use Prim.Native.Nat.{ℕ, suc, ◌+◌, ◌-◌, ◌≤◌}
use native.Mathlib.Omega.{arith}
use lib.Ieee.{le}
use Rattle.counts.proofs.Sums.{at_most_more, at_most_plus}
use Rattle.kmeans_layout.specs.declared.Area.{Area}
use Rattle.kmeans_lloyd.specs.Results.{Result}
use Rattle.kmeans_lloyd.specs.Runs.{result_in}
use Rattle.kmeans_restarts.specs.Restarts.{keep, restarts_up_to}
use Rattle.kmeans_restarts.specs.Runs.{Holds, Restarted}
use Rattle.kmeans_restarts.specs.declared.Restarts.{Restarts}

-- what belongs to the one of two runs that a test picks
field : {A : Type 0} (f : Result → A) (b : Bool) (x y : Result) → cond b (f x) (f y) ≡ f (cond b x y)
field f true x y = refl
field f false x y = refl

kept_turn : (t : ℕ) (a₀ a a' : Area) (held run : Result) (h h' : Restarts) → Holds held a₀ a t h → Restarted run a a' h h'
    → Holds (keep held run) a₀ a' (t + 1) h'
kept_turn t a₀ a a' held run h h' v x =
    let b = le run.cohesion held.cohesion in
    record {
      same = (x.same.0 ∙ v.same.0, x.same.1 ∙ v.same.1);
      labels = x.labels ∙ rw (v.cohesion, v.labels) (field (λ (r : Result). r.labels) b held run);
      centers = x.centers ∙ rw (v.cohesion, v.centers) (field (λ (r : Result). r.centers) b held run);
      cohesion = x.cohesion ∙ rw v.cohesion (field (λ (r : Result). r.cohesion) b held run);
      counts = x.counts ∙ rw v.counts;
      generator = x.generator;
      small = rw x.counts (at_most_more (omega arith) (at_most_plus v.small x.small));
    }

-- from an area of the same sizes and leaves
module _ (a₀ : Area) (rounds seed : ℕ) where
  abbrev pub held_after : ℕ → Result
  held_after n =
      restarts_up_to a₀.leaves.weights.now a₀.leaves.coords.now a₀.shape.m a₀.shape.k a₀.shape.d rounds seed n

  pub restart_turn : (t : ℕ) (a a' : Area) (h h' : Restarts) → 1 ≤ t → Holds (held_after (t - 1)) a₀ a t h
      → Restarted (result_in a rounds h.generator) a a' h h' → Holds (held_after (t + 1 - 1)) a₀ a' (t + 1) h'
  unfolding restarts_up_to
  restart_turn t a a' h h' le v x =
      let e : t + 1 - 1 ≡ suc (t - 1) = omega arith in
      let f : result_in a rounds h.generator ≡ result_in a₀ rounds (held_after (t - 1)).generator = rw (v.same.0, v.same.1, v.generator) in
      rw e (kept_turn t a₀ a a' (held_after (t - 1)) _ h h' v (rw f at x))
