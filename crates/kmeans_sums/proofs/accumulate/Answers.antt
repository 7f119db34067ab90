-- `kmeans_sums::accumulate` meets its contract. Assumes nothing.
use mathlib.Core.Path.{ap, ◌∙◌}
use Prim.Native.Nat.{ℕ}
use native.Mathlib.Omega.{arith}
use lib.ListN.{replicate, get_or}
use borrow.Author.Rules.{rules}
use Rattle.kmeans_sums.specs.Sums.{sums_up_to, counts_up_to}
use Rattle.kmeans_sums.proofs.Sums.{counts_most, gather_turn}
use Rattle.kmeans_sums.proofs.accumulate.Goals as goal

pub loop-i-init : goal.loop-i-init
unfolding sums_up_to counts_up_to
loop-i-init c =
    let a = c.args.area.now in
    let e = c.clear_sums.ensures in record {
      same = e.beside.0;
      state = e.beside.1;
      sums = e.sums;
      counts = e.beside.2 ∙ c.fill.ensures ∙ ap (λ (n : ℕ). replicate n 0) a.sized.counts_long;
    }

pub gain-requires : goal.gain-requires
gain-requires c =
    let l = c.loop-i in
    let a = c.args.area.now in
    let most = counts_most a.labels.now a.shape.k l.i (get_or l.area.labels.now l.i 0) in (
      search rules,
      rw l.invariant.counts (omega (arith, most, c.loop-i-test.true, a.shape.sizes.m_small)),
    )

pub loop-i-preserved : goal.loop-i-preserved
loop-i-preserved c = gather_turn _ _ _ _ c.loop-i.invariant c.gain.ensures
