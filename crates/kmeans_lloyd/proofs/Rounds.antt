-- The rounds over plain lists: a round that is made is one round of the definition's run. By the way each test went, and by recursion on
-- the rounds. Assumes nothing.
use mathlib.Core.Path.{◌≡◌, refl, ap, ◌∙◌}
use mathlib.Core.List.{List}
use mathlib.Core.Bool.{Bool, cond, true, false}
use Prim.Native.Nat.{ℕ, suc, ◌+◌, ◌*◌, ◌≤◌}
use native.Mathlib.Omega.{arith}
use lib.Ieee.{Float}
use Rattle.counts.specs.declared.Counts.{Counts}
use Rattle.counts.specs.Counts.{plus_of, AtMost, of_round}
use Rattle.counts.proofs.Sums.{at_most_more, at_most_plus}
use Rattle.kmeans_layout.specs.State.{State}
use Rattle.kmeans_assign.specs.Pass.{pass_of}
use Rattle.kmeans_update.specs.Update.{update_of}
use Rattle.kmeans_lloyd.specs.Lloyd.{Run, ends_at, rounds_from}
use Rattle.kmeans_lloyd.specs.Runs.{RoundDone, RunSoFar}
use Rattle.std.specs.declared.ops.ControlFlow.TheVariants.{Continue, Break}

-- a run with one round more, n doubled by then
abbrev counted : Run → State → Counts → ℕ → Run
counted r s q n = record { state = s; counts = plus_of r.counts q; doubled = n; begun = r.begun + 1 }

-- a round that goes on is not the last, and one that breaks is
going : (b : Bool) (q x : Counts) → Continue q ≡ cond b (Break x) (Continue x) → (b ≡ false) × (q ≡ x)
going false q x e = (refl, cc)
going true q x e = cc

ending : (b : Bool) (q x : Counts) → Break q ≡ cond b (Break x) (Continue x) → (b ≡ true) × (q ≡ x)
ending true q x e = (refl, cc)
ending false q x e = cc

module _ (weights coords : List Float) (m k d : ℕ) where
  -- what the update of round `it` doubles
  abbrev anew : ℕ → State → ℕ
  anew it s = (update_of weights coords m k d (pass_of coords m k d it s).state).doubled

  module _ (n n' it : ℕ) (r : Run) (s : State) (q : Counts) (more : n ≡ suc n') where
    run_turn : RoundDone weights coords m k d it r.state s (Continue q)
        → rounds_from weights coords m k d n' (it + 1) (counted r s q (r.doubled + anew it r.state))
        ≡ rounds_from weights coords m k d n it r
    unfolding rounds_from
    run_turn done =
        let p = pass_of coords m k d it r.state in
        let e = going (ends_at it p) q p.counts done.answer in
        rw (more, e.0, e.1, rw e.0 at done.state)

    run_stop : RoundDone weights coords m k d it r.state s (Break q) → counted r s q r.doubled ≡ rounds_from weights coords m k d n it r
    unfolding rounds_from
    run_stop done =
        let p = pass_of coords m k d it r.state in
        let e = ending (ends_at it p) q p.counts done.answer in
        rw (more, e.0, e.1, rw e.0 at done.state)

  -- no round is left
  run_end : (n it : ℕ) (r run : Run) → n ≡ 0 → rounds_from weights coords m k d n it r ≡ run → r ≡ run
  unfolding rounds_from
  run_end n it r run e f = rw e at f

-- the definition's run where the code's state and counts are those after `it` rounds; the code does not count what it doubled
abbrev running : ℕ → State → Counts → ℕ → Run
running it s c n = record { state = s; counts = c; doubled = n; begun = it }

-- what `it` rounds count at most
abbrev pub Few : ℕ → Counts → Type 0
Few it c = AtMost (it * of_round) c

pub few_turn : (it : ℕ) (c c' q : Counts) → AtMost of_round q → c' ≡ plus_of c q → Few it c → Few (it + 1) c'
few_turn it c c' q small e f = rw e (at_most_more (omega arith) (at_most_plus f small))

-- the rest of the definition's run, n rounds at most from round `it` on, ends as the whole one does
module _ (weights coords : List Float) (m k d : ℕ) (whole : Run) where
  pub record GoesOn (n it : ℕ) (s : State) (c : Counts) : Type 0 where
    pub doubled : ℕ
    pub ends : rounds_from weights coords m k d n it (running it s c doubled) ≡ whole

  lloyd_done : (it n : ℕ) (s : State) (c : Counts) → running it s c n ≡ whole → Few it c → it ≤ 10000 → RunSoFar whole s c
  lloyd_done it n s c e f h =
      record {
        state = ap (λ (r : Run). r.state) e;
        counts = ap (λ (r : Run). r.counts) e;
        small = at_most_more (omega arith) f;
      }

  -- round `it` made: the run goes on, or stops there
  module _ (n n' it : ℕ) (s s' : State) (c c' q : Counts) (more : n ≡ suc n') (sum : c' ≡ plus_of c q) (g : GoesOn n it s c) where
    pub goes_on : RoundDone weights coords m k d it s s' (Continue q) → GoesOn n' (it + 1) s' c'
    goes_on done =
        rw sum (record {
          doubled = g.doubled + anew weights coords m k d it s;
          ends = run_turn weights coords m k d n n' it (running it s c g.doubled) s' q more done ∙ g.ends;
        })

    pub stops : RoundDone weights coords m k d it s s' (Break q) → Few (it + 1) c' → it + 1 ≤ 10000 → RunSoFar whole s' c'
    stops done =
        let e = run_stop weights coords m k d n n' it (running it s c g.doubled) s' q more done ∙ g.ends in
        lloyd_done (it + 1) g.doubled s' c' (rw sum e)

  pub runs_out : (n it : ℕ) (s : State) (c : Counts) → n ≡ 0 → GoesOn n it s c → Few it c → it ≤ 10000 → RunSoFar whole s c
  runs_out n it s c e g = lloyd_done it g.doubled s c (run_end weights coords m k d n it (running it s c g.doubled) whole e g.ends)
