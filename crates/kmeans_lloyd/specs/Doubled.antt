-- Document 01's count doubled, of one run, and document 02, #110: for all leaves within the limits it is zero.
-- Definitions only.
use Rattle.std.specs.Prelude.{◌≡◌, List, true, ℕ, ◌≤◌, ◌<◌, length, Float}
use Rattle.limits.specs.Limits.{coordinate_ok, every, LeavesOk}
use Rattle.kmeans_seeding.specs.Seeding.{seeds_of}
use Rattle.kmeans_assign.specs.Pass.{pass_of}
use Rattle.kmeans_update.specs.Update.{update_to}
use Rattle.kmeans_lloyd.specs.Lloyd.{Run, lloyd_of}

module _ (weights coords : List Float) (m k d : ℕ) where
  -- a run of at most so many rounds, with the generator at this word before its seeds: any seed, any restart
  abbrev pub run_of : (rounds generator : ℕ) → Run
  run_of rounds generator = lloyd_of weights coords m k d rounds (seeds_of weights coords m k d generator).centers

  -- doubled: reseeds that pick a leaf already picked in the same update
  abbrev pub doubled_of : (rounds generator : ℕ) → ℕ
  doubled_of rounds generator = (run_of rounds generator).doubled

  -- the leaves picked in the update of round `it`, before group c has its turn. After `it` rounds a longer run is where
  -- a run of `it` rounds ends; the update follows that round's pass.
  abbrev pub picked_before : (generator it c : ℕ) → List ℕ
  picked_before generator it c =
      let p = pass_of coords m k d it (run_of it generator).state in
      (update_to weights coords m k d p.state c).picked

  -- ---- #110, in its words
  pub record NoneDoubled (rounds generator : ℕ) : Type 0 where
    -- the centres' coordinates stay within ±2, which is a coordinate's own limit. ±1 would be false: the unit vector of
    -- 2.7223123787726303e-162 alone is √1.5, for its square is rounded to the smallest f64
    pub centers : every coordinate_ok (run_of rounds generator).state.centers ≡ true
    -- before each pick fewer leaves are picked than there are: before that for group c, at most c < k ≤ m
    pub most : (it c : ℕ) → c < k → length (picked_before generator it c) ≤ c
    pub fewer : (it c : ℕ) → c < k → length (picked_before generator it c) < m
    -- it is zero
    pub none : doubled_of rounds generator ≡ 0

-- for all leaves within the limits, 1 ≤ k ≤ m, whatever the rounds, the seed and the restart
abbrev pub NeverDoubled : Type 0
NeverDoubled =
    (weights coords : List Float) (d k rounds generator : ℕ) → LeavesOk weights coords d → 1 ≤ k → k ≤ length weights
    → NoneDoubled weights coords (length weights) k d rounds generator
