-- Laws of the sums, counts and norms of the groups: a turn of a loop is one more step of the definition. A count by recursion on the
-- leaves. Assumes nothing.
use mathlib.Core.Path.{◌≡◌, refl, ap, sym, ◌∙◌}
use mathlib.Core.List.{List, [], ◌∷◌, ◌++◌}
use Prim.Native.Nat.{ℕ, zero, suc, ◌+◌, ◌≤◌}
use native.Mathlib.Numerals.{add-one}
use native.Mathlib.Omega.{arith}
use lib.ListN.{length, get_or, set, replicate, length-append}
use lib.Ieee.{Float, binary64, add}
use Rattle.float.specs.Arithmetic.{plus_zero, sum_from}
use Rattle.rows.specs.Rows.{row_of}
use Rattle.vector.specs.Vectors.{norm_of}
use Rattle.kmeans_layout.specs.State.{State}
use Rattle.kmeans_layout.specs.Areas.{state_of, Same}
use Rattle.kmeans_layout.specs.declared.Area.{Area}
use Rattle.kmeans_sums.specs.Sums.{norms_up_to, sums_up_to, counts_up_to}
use Rattle.kmeans_sums.specs.Gains.{Gained}

-- ---- the norms, by which the scales are written
pub norms_length : (rows : List Float) (d n : ℕ) → length (norms_up_to rows d n) ≡ n
unfolding norms_up_to
norms_length rows d zero = refl
norms_length rows d (suc n) = length-append (norms_up_to rows d n) (norm_of (row_of rows d n) ∷ []) ∙ omega (arith, norms_length rows d n)

-- one row more
sum_append : (s : Float) (xs : List Float) (x : Float) → sum_from s (xs ++ (x ∷ [])) ≡ add binary64 (sum_from s xs) x
sum_append s [] x = refl
sum_append s (y ∷ xs) x = sum_append (add binary64 s y) xs x

pub norms_turn : (rows : List Float) (d c : ℕ) (x v : Float) → x ≡ sum_from plus_zero (norms_up_to rows d c)
    → v ≡ norm_of (row_of rows d c) → add binary64 x v ≡ sum_from plus_zero (norms_up_to rows d (c + 1))
unfolding norms_up_to
norms_turn rows d c x v e f =
    rw (add-one, e, f) (sym (sum_append plus_zero (norms_up_to rows d c) (norm_of (row_of rows d c))))

-- ---- a count grows by at most one a leaf
zeros_most : (n c b : ℕ) → get_or (replicate n 0) c 0 ≤ b
zeros_most zero c b = omega arith
zeros_most (suc n) zero b = omega arith
zeros_most (suc n) (suc c) b = zeros_most n c b

set_most : (l : List ℕ) (i j v b : ℕ) → v ≤ b → get_or l j 0 ≤ b → get_or (set l i v) j 0 ≤ b
set_most [] i j v b h g = g
set_most (x ∷ l) zero zero v b h g = h
set_most (x ∷ l) zero (suc j) v b h g = g
set_most (x ∷ l) (suc i) zero v b h g = g
set_most (x ∷ l) (suc i) (suc j) v b h g = set_most l i j v b h g

pub counts_most : (labels : List ℕ) (k n c : ℕ) → get_or (counts_up_to labels k n) c 0 ≤ n
unfolding counts_up_to
counts_most labels k zero c = zeros_most k c 0
counts_most labels k (suc n) c =
    let l = get_or labels n 0 in
    let t = counts_up_to labels k n in
    set_most t l c (get_or t l 0 + 1) (suc n) (omega (arith, counts_most labels k n l)) (omega (arith, counts_most labels k n c))

-- ---- the sums and counts of the first i leaves of the area a₀
pub record Gathered (a₀ a : Area) (i : ℕ) : Type 0 where
  pub same : Same a₀ a
  pub state : state_of a ≡ state_of a₀
  pub sums : a.sums.now ≡ sums_up_to a₀.leaves.weights.now a₀.leaves.coords.now a₀.labels.now a₀.shape.k a₀.shape.d i
  pub counts : a.counts.now ≡ counts_up_to a₀.labels.now a₀.shape.k i

pub gather_turn : (a₀ a a' : Area) (i : ℕ) → Gathered a₀ a i → Gained i a a' → Gathered a₀ a' (i + 1)
unfolding sums_up_to counts_up_to
gather_turn a₀ a a' i o g =
    let labels : a.labels.now ≡ a₀.labels.now = ap (λ (s : State). s.labels) o.state in
    rw add-one (record {
      same = (g.same.0 ∙ o.same.0, g.same.1 ∙ o.same.1);
      state = g.state ∙ o.state;
      sums = g.sums ∙ rw (o.same.0, o.same.1, labels, o.sums);
      counts = g.counts ∙ rw (labels, o.counts);
    })
