-- A whole run from its parts: seeds, start, rounds and cohesion, each by what its function promises; and its counts, made + saved
-- = k·m·rounds begun. Assumes nothing.
use mathlib.Core.Path.{◌≡◌, ap, ◌∙◌}
use mathlib.Core.List.{List}
use Prim.Native.Nat.{ℕ, ◌+◌, ◌*◌, ◌≤◌}
use native.Mathlib.Omega.{arith}
use lib.Ieee.{Float}
use Rattle.counts.specs.declared.Counts.{Counts}
use Rattle.kmeans_seeding.specs.Seeding.{seeds_of}
use Rattle.kmeans_layout.specs.State.{State}
use Rattle.kmeans_lloyd.specs.Lloyd.{Run, started_from, fresh_run, rounds_from, lloyd_of}
use Rattle.kmeans_sums.specs.Cohesion.{cohesion_of}
use Rattle.kmeans_lloyd.specs.Results.{result_of}
use Rattle.kmeans_lloyd.specs.Runs.{RunSoFar, RunDone}
use Rattle.kmeans_lloyd.proofs.Tallies.{counts_of_rounds, begun_most}

-- ---- the run
pub run_done : (weights coords : List Float) (m k d rounds generator : ℕ) (cs : List Float) (s₂ s₃ s₄ : State) (next : ℕ) (c : Counts)
    (v : Float)
    → cs ≡ (seeds_of weights coords m k d generator).centers
    → next ≡ (seeds_of weights coords m k d generator).generator
    → s₂ ≡ started_from coords m k d cs
    → RunSoFar (rounds_from weights coords m k d rounds 0 (fresh_run s₂)) s₃ c
    → v ≡ cohesion_of weights coords s₃.labels m k d
    → s₄ ≡ s₃
    → RunDone (result_of weights coords m k d rounds generator) s₄
    (record { cohesion = v; counts = c; generator = next })
unfolding result_of
run_done weights coords m k d rounds generator cs s₂ s₃ s₄ next c v es en e₂ l ev e₄ =
    let seeds = seeds_of weights coords m k d generator in
    let r : rounds_from weights coords m k d rounds 0 (fresh_run s₂) ≡ lloyd_of weights coords m k d rounds seeds.centers =
    ap (λ (x : State). rounds_from weights coords m k d rounds 0 (fresh_run x)) (e₂ ∙ ap (started_from coords m k d) es) in
    let es₃ : s₃ ≡ (lloyd_of weights coords m k d rounds seeds.centers).state = l.state ∙ ap (λ (x : Run). x.state) r in
    record {
      labels = ap (λ (x : State). x.labels) (e₄ ∙ es₃);
      centers = ap (λ (x : State). x.centers) (e₄ ∙ es₃);
      cohesion = ev ∙ ap (λ (x : State). cohesion_of weights coords x.labels m k d) es₃;
      counts = l.counts ∙ ap (λ (x : Run). x.counts) r;
      generator = en;
      small = l.small;
    }

-- ---- made + saved = k · m · rounds begun
pub run_counts : (weights coords : List Float) (m k d rounds generator : ℕ)
    → let r = result_of weights coords m k d rounds generator in r.counts.made + r.counts.saved ≡ k * m * r.begun
unfolding result_of
run_counts weights coords m k d rounds generator =
    counts_of_rounds weights coords m k d rounds 0 (fresh_run (started_from coords m k d (seeds_of weights coords m k d generator).centers))
    (omega arith)

-- ---- a run begins no more rounds than it may
pub run_most : (weights coords : List Float) (m k d rounds generator : ℕ) → (result_of weights coords m k d rounds generator).begun ≤ rounds
unfolding result_of
run_most weights coords m k d rounds generator =
    let most =
    begun_most weights coords m k d rounds 0 (fresh_run (started_from coords m k d (seeds_of weights coords m k d generator).centers)) in
    omega (arith, most)
