-- The invariant of both loops of `put_log_densities`: the log densities of leaf i in the groups before the next one stand at the front of
-- its row of the responsibilities, and nothing changes sizes and leaves. Assumes nothing.
use Rattle.std.specs.Prelude.{◌≡◌, ℕ, ◌*◌}
use Rattle.rows.specs.Rows.{row_of}
use Rattle.mixture_run.specs.declared.layout.Groups.{Groups}
use Rattle.mixture_run.specs.Areas.{parts_of, SameGroups}
use Rattle.mixture_run.proofs.Expected.{row_done}
use Rattle.mixture_run.proofs.expectation.put_log_densities.Given as goal

-- the first n log densities of leaf i of the area a₀ stand in a
abbrev Stand : (a₀ a : Groups) (i n : ℕ) → Type 0
Stand a₀ a i n =
    let z = a₀.shape in
    (SameGroups a₀ a) × (parts_of a ≡ row_done z.d z.k i (row_of a₀.leaves.coords.now z.d i) (parts_of a₀) n)

abbrev pub invariant-loop-b : goal.invariant-loop-b
invariant-loop-b l = Stand l.fn.area l.area l.i (4 * l.b)

abbrev pub invariant-loop-c : goal.invariant-loop-c
invariant-loop-c l = Stand l.fn.area l.area l.i l.c
