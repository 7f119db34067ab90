-- Laws of the seeds: an array written place by place holds what is done before what it held, and each definition of specs/Seeding.antt
-- grows by one place or one centre a turn. Over plain lists; the leaves come as a `Problem`. Assumes nothing.
use mathlib.Core.Path.{◌≡◌, refl, ap, sym, subst, ◌∙◌}
use mathlib.Core.List.{List, [], ◌∷◌, ◌++◌, map, map-append, append_assoc, append-nil}
use mathlib.Core.Bool.{Bool, true, false, cond}
use Prim.Native.Nat.{ℕ, zero, suc, ◌+◌, ◌*◌, ◌-◌, ◌≤◌, ◌<◌}
use native.Mathlib.Nat.{suc-mul, zero-mul, add-zero}
use native.Mathlib.Numerals.{add-one}
use native.Mathlib.Omega.{arith}
use lib.ListN.{length, get_or, take, drop, set, replicate, length-append, get_or-append}
use lib.Seq.{take-suc, take_all, take_at, length-take-le, set-append_left}
use Rattle.std.proofs.lemmas.List.{get_or-append_right, set-append_right}
use lib.IntN.{ℤ}
use lib.Ieee.{Float, nan, inf, fin, is_nan, binary64, sub, mul, lt}
use Rattle.float.specs.Arithmetic.{number, minus_zero, plus_zero, max_of}
use Rattle.rows.specs.Rows.{put_part, row_of}
use Rattle.rows.specs.Tabulate.{tabulate}
use Rattle.rows.proofs.Tabulate.{tabulate_is, tabulate_length}
use Rattle.vector.specs.Vectors.{dot_of, unit_vector}
use Rattle.rows.proofs.Rows.{row_within, length_part, part_put}
use Rattle.rows.proofs.Fills.{front_turn, front_next, front_end}
use Rattle.pick.specs.Pick.{pick_of}
use Rattle.pick.specs.declared.Picked.{Picked}
use Rattle.vector.proofs.Vectors.{dot_comm, unit_length}
use Rattle.pick.proofs.Places.{pick_below}
use Rattle.kmeans_nearest.specs.Blocks.{row_dots}
use Rattle.kmeans_layout.specs.declared.Problem.{Problem}
use Rattle.kmeans_seeding.specs.Seeding.{cosine_distance, cosine_distances_up_to, lowered, chances, seed_row, Seeds, seeds_up_to, seeds_of}
use Rattle.kmeans_seeding.specs.Distances.{cosine_distances, lower_at, lower_from, held_by, next_pick, SeededNext}

-- ---- the distances

-- how far n leaves are from a centre, by their dots with it
abbrev pub distance_by : Float → Float
distance_by v = max_of (sub binary64 (number 1) v) plus_zero

pub distances_done : (coords : List Float) (d : ℕ) (row : List Float) (i n : ℕ)
    → map distance_by (row_dots row coords d i n) ≡ cosine_distances coords d row i n
unfolding tabulate
distances_done coords d row i zero = refl
distances_done coords d row i (suc n) =
    let x = row_of coords d (i + n) in
    map-append distance_by (row_dots row coords d i n) (dot_of row x ∷ [])
    ∙ rw (distances_done coords d row i n, dot_comm minus_zero row x)

-- one new distance more
lower_more : (w : List Float) (at : ℕ) (vs : List Float) (v : Float)
    → lower_from w at (vs ++ (v ∷ [])) ≡ lower_at (lower_from w at vs) (at + length vs) v
lower_more w at [] v = let e : at + 0 ≡ at = omega arith in rw e
lower_more w at (x ∷ vs) v =
    let e : suc at + length vs ≡ at + suc (length vs) = omega arith in
    lower_more (lower_at w at x) (suc at) vs v ∙ rw e

-- with the first e, the next, in the n distances from place `at` on
pub lower_turn : (w l f : List Float) (at n e : ℕ) → at ≤ length w → e < length l → e < length f
    → put_part w at n l ≡ lower_from w at (take e f) → let v = get_or f e nan in
    let held = get_or l e nan in
    put_part w at n (set l e (cond (lt v held) v held)) ≡ lower_from w at (take (e + 1) f)
unfolding lower_at
lower_turn w l f at n e in_w in_l in_f is =
    let p = take at w in
    let r = drop n (drop at w) in
    let v = get_or f e nan in
    let le : length (take e f) ≡ e = length-take-le e f (omega arith) in
    let place : at + e - at ≡ e = omega arith in
    let lp : length p ≡ at = length-take-le at w in_w in
    let held : get_or (put_part w at n l) (at + e) nan ≡ get_or l e nan =
    get_or-append_right p (l ++ r) at (at + e) nan lp (omega arith) ∙ rw place (get_or-append l r nan e in_l) in
    let stored : (x : Float) → set (put_part w at n l) (at + e) x ≡ put_part w at n (set l e x) =
    λ x. set-append_right p (l ++ r) at (at + e) x lp (omega arith) ∙ rw (place, set-append_left l r e x in_l) in
    rw (add-one, take-suc f e nan in_f, lower_more, le, ← is, held) (sym (stored _))

-- the distances lowered where a further centre is nearer
module _ (coords : List Float) (d : ℕ) (row : List Float) where
  lowered_length : (j : ℕ) (xs : List Float) → length (lowered coords d row j xs) ≡ length xs
  unfolding lowered
  lowered_length j [] = refl
  lowered_length j (x ∷ xs) = ap suc (lowered_length (suc j) xs)

  lowered_at : (xs : List Float) (j i n : ℕ) → n ≡ j + i → i < length xs → let v = cosine_distance (row_of coords d n) row in
      let x = get_or xs i nan in
      get_or (lowered coords d row j xs) i nan ≡ cond (lt v x) v x
  unfolding lowered
  lowered_at [] j i n e h = absurd (omega arith)
  lowered_at (x ∷ xs) j zero n e h = let f : n ≡ j = omega arith in rw f
  lowered_at (x ∷ xs) j (suc i) n e h = lowered_at xs (suc j) i n (omega arith) (omega arith)

  -- of which the first i are lowered
  abbrev pub lowering : ℕ → List Float → List Float
  lowering i xs = take i (lowered coords d row 0 xs) ++ drop i xs

  lowering_next : (xs w : List Float) (i : ℕ) → i < length xs → w ≡ lowering i xs
      → lower_at w i (cosine_distance (row_of coords d i) row) ≡ lowering (i + 1) xs
  unfolding lower_at
  lowering_next xs w i h g =
      let new = lowered coords d row 0 xs in
      let v = cosine_distance (row_of coords d i) row in
      let held = get_or w i nan in
      let x = cond (lt v held) v held in
      let ln = lowered_length 0 xs in
      let lp : length (take i new) ≡ i = length-take-le i new (omega arith) in
      let y : held ≡ get_or xs i nan = rw g (front_next nan (take i new) xs i lp h) in
      let is : x ≡ get_or new i nan = rw y (sym (lowered_at xs 0 i i (omega arith) h)) in
      let more : take i new ++ (x ∷ []) ≡ take (i + 1) new = rw (add-one, is) (sym (take-suc new i nan (omega arith))) in
      ap (λ (r : List Float). set r i x) g ∙ front_turn nan (take i new) xs i lp x h ∙ ap (λ (r : List Float). r ++ drop (i + 1) xs) more

  -- n leaves more
  pub lowering_more : (xs w : List Float) (i n : ℕ) → i + n ≤ length xs → w ≡ lowering i xs
      → lower_from w i (cosine_distances coords d row i n) ≡ lowering (i + n) xs
  unfolding tabulate
  lowering_more xs w i zero h g = let e : i + 0 ≡ i = omega arith in rw e g
  lowering_more xs w i (suc n) h g =
      let vs = cosine_distances coords d row i n in
      let v = cosine_distance (row_of coords d (i + n)) row in
      let l : length vs ≡ n = tabulate_length (λ (e : ℕ). cosine_distance (row_of coords d (i + e)) row) n in
      let e : i + n + 1 ≡ i + suc n = omega arith in
      let next = lowering_next xs (lower_from w i vs) (i + n) (omega arith) (lowering_more xs w i n (omega arith) g) in
      rw (lower_more w i vs v, l) (next ∙ ap (λ (j : ℕ). lowering j xs) e)

  pub lowering_all : (xs : List Float) (i : ℕ) → i ≡ length xs → lowering i xs ≡ lowered coords d row 0 xs
  lowering_all xs i e =
      let new = lowered coords d row 0 xs in
      let ln : length new ≤ i = omega (arith, lowered_length 0 xs) in
      front_end (take i new) xs i (sym e) ∙ take_all i new ln

-- infinite distances lowered are the distances: a cosine distance is at most an infinite one, and no NaN
below_inf : (t : Bool) (s : Bool) (m : ℕ) (e : ℤ) → let v = cond t plus_zero (fin s m e) in cond (lt v (inf false)) v (inf false) ≡ v
unfolding lt
below_inf true s m e = refl
below_inf false s m e = refl

nearer_inf : (x : Float) → let v = max_of x plus_zero in cond (lt v (inf false)) v (inf false) ≡ v
unfolding lt max_of is_nan
nearer_inf nan = refl
nearer_inf (inf true) = refl
nearer_inf (inf false) = refl
nearer_inf (fin s m e) = below_inf (lt (fin s m e) plus_zero) s m e

lowered_inf : (coords : List Float) (d : ℕ) (row : List Float) (i n : ℕ)
    → cosine_distances_up_to coords d row i ++ lowered coords d row i (replicate n (inf false))
    ≡ cosine_distances_up_to coords d row (i + n)
unfolding cosine_distances_up_to lowered
lowered_inf coords d row i zero = rw (append-nil, add-zero)
lowered_inf coords d row i (suc n) =
    let a = cosine_distance (row_of coords d i) row in
    let p : suc i + n ≡ i + suc n = omega arith in
    rw (nearer_inf (sub binary64 (number 1) (dot_of (row_of coords d i) row)))
    (sym (append_assoc (cosine_distances_up_to coords d row i) (a ∷ []) (lowered coords d row (suc i) (replicate n (inf false))))
    ∙ lowered_inf coords d row (suc i) n ∙ ap (cosine_distances_up_to coords d row) p)

pub lowered_first : (coords : List Float) (d : ℕ) (row : List Float) (m : ℕ)
    → lowered coords d row 0 (replicate m (inf false)) ≡ cosine_distances_up_to coords d row m
unfolding cosine_distances_up_to
lowered_first coords d row m =
    let p : 0 + m ≡ m = omega arith in
    lowered_inf coords d row 0 m ∙ ap (cosine_distances_up_to coords d row) p

-- ---- the chances of the leaves
chances_length : (ws xs : List Float) → length ws ≡ length xs → length (chances ws xs) ≡ length xs
unfolding chances
chances_length [] [] e = refl
chances_length [] (x ∷ xs) e = absurd (omega arith)
chances_length (w ∷ ws) [] e = refl
chances_length (w ∷ ws) (x ∷ xs) e = ap suc (chances_length ws xs (omega arith))

chances_at : (ws xs : List Float) (i : ℕ) → i < length ws → i < length xs
    → get_or (chances ws xs) i nan ≡ mul binary64 (get_or ws i nan) (get_or xs i nan)
unfolding chances
chances_at [] xs i h g = absurd (omega arith)
chances_at (w ∷ ws) [] i h g = absurd (omega arith)
chances_at (w ∷ ws) (x ∷ xs) zero h g = refl
chances_at (w ∷ ws) (x ∷ xs) (suc i) h g = chances_at ws xs i (omega arith) (omega arith)

pub chances_by : (ws xs : List Float) (n : ℕ) → length ws ≡ n → length xs ≡ n
    → tabulate (λ i. mul binary64 (get_or ws i nan) (get_or xs i nan)) n ≡ chances ws xs
chances_by ws xs n lw lx =
    sym (tabulate_is _ (chances ws xs) n nan (chances_length ws xs (lw ∙ sym lx) ∙ lx)
    (λ i h. chances_at ws xs i (omega arith) (omega arith)))

-- ---- one centre more

-- a unit row is as long as a leaf, and the leaf picked is one of the m
seed_row_length : (coords : List Float) (m d i : ℕ) → length coords ≡ m * d → i < m → length (unit_vector (row_of coords d i)) ≡ d
seed_row_length coords m d i e h = unit_length (row_of coords d i) ∙ length_part coords (i * d) d (omega (arith, row_within i m d h))

module _ (p : Problem) where
  pub first_below : (generator : ℕ) → (pick_of p.leaves.weights.now generator).index < p.shape.m
  first_below generator =
      let lw = p.fit.weights_long in
      let some = p.shape.sizes.m_some in
      omega (arith, pick_below p.leaves.weights.now generator (omega arith))

  index_below : (s : Seeds) → length s.distances ≡ p.shape.m → (next_pick p.leaves.weights.now s).index < p.shape.m
  index_below s ld =
      let lw = p.fit.weights_long in
      let some = p.shape.sizes.m_some in
      let l = chances_length p.leaves.weights.now s.distances (omega arith) in
      omega (arith, pick_below (chances p.leaves.weights.now s.distances) s.generator (omega arith))

  -- the chances are written, and q is picked from them
  next_is : (s : Seeds) (chanced : List Float) (q : Picked) → chanced ≡ chances p.leaves.weights.now s.distances
      → q ≡ pick_of chanced s.generator → q ≡ next_pick p.leaves.weights.now s
  next_is s chanced q ew eq = eq ∙ ap (λ (w : List Float). pick_of w s.generator) ew

  pub next_below : (s : Seeds) (chanced : List Float) (q : Picked) → length s.distances ≡ p.shape.m
      → chanced ≡ chances p.leaves.weights.now s.distances → q ≡ pick_of chanced s.generator → q.index < p.shape.m
  next_below s chanced q ld ew eq = rw (next_is s chanced q ew eq) (index_below s ld)

  -- the leaf picked becomes centre c, which lowers the distances
  pub next_done : (s : Seeds) (c : ℕ) (chanced cs ds : List Float) (q : Picked) → c < p.shape.k
      → length s.centers ≡ p.shape.k * p.shape.d → length s.distances ≡ p.shape.m
      → chanced ≡ chances p.leaves.weights.now s.distances → q ≡ pick_of chanced s.generator
      → cs ≡ put_part s.centers (c * p.shape.d) p.shape.d (seed_row p.leaves.coords.now p.shape.d q)
      → ds ≡ lowered p.leaves.coords.now p.shape.d (row_of cs p.shape.d c) 0 s.distances
      → SeededNext p.leaves.weights.now p.leaves.coords.now p.shape.d c s (held_by cs ds q.generator)
  next_done s c chanced cs ds q h lc ld ew eq ec ed =
      let coords = p.leaves.coords.now in
      let d = p.shape.d in
      let next = next_pick p.leaves.weights.now s in
      let row = seed_row coords d next in
      let is = next_is s chanced q ew eq in
      let lr : length row ≡ d = seed_row_length coords p.shape.m d next.index p.fit.coords_long (index_below s ld) in
      let within : c * d ≤ length s.centers = omega (arith, lc, row_within c p.shape.k d h) in
      let put : row_of (put_part s.centers (c * d) d row) d c ≡ row = part_put s.centers (c * d) d row lr within in
      let more : cs ≡ put_part s.centers (c * d) d row =
      ec ∙ ap (λ (x : Picked). put_part s.centers (c * d) d (seed_row coords d x)) is in
      let by : row_of cs d c ≡ row = ap (λ (x : List Float). row_of x d c) more ∙ put in
      record {
        centers = more;
        distances = ed ∙ ap (λ (r : List Float). lowered coords d r 0 s.distances) by;
        generator_is = ap (λ (x : Picked). x.generator) is;
      }

-- ---- the parts with c seeds, nothing being said of the centres past them
abbrev chosen : (p : Problem) (generator c : ℕ) → Seeds
chosen p generator c = seeds_up_to p.leaves.weights.now p.leaves.coords.now p.shape.m p.shape.d generator (c - 1)

pub record Held (p : Problem) (generator c : ℕ) (s : Seeds) : Type 0 where
  pub centers : take (c * p.shape.d) s.centers ≡ (chosen p generator c).centers
  pub distances : s.distances ≡ (chosen p generator c).distances
  pub generator_is : s.generator ≡ (chosen p generator c).generator

-- one row more of the rows at the front
take_row : (l row : List Float) (c d : ℕ) → length row ≡ d → c * d ≤ length l
    → take ((c + 1) * d) (put_part l (c * d) d row) ≡ take (c * d) l ++ row
take_row l row c d e h =
    let f : length (take (c * d) l ++ row) ≡ c * d + d = length-append (take (c * d) l) row ∙ rw (length-take-le (c * d) l h, e) in
    rw (add-one, suc-mul, ← append_assoc (take (c * d) l) row (drop d (drop (c * d) l)))
    (take_at (take (c * d) l ++ row) (drop d (drop (c * d) l)) (c * d + d) f)

module _ (p : Problem) (generator : ℕ) where
  pub held_first : (centers cs ds : List Float) (q : Picked) → length centers ≡ p.shape.k * p.shape.d
      → q ≡ pick_of p.leaves.weights.now generator
      → cs ≡ put_part centers (0 * p.shape.d) p.shape.d (seed_row p.leaves.coords.now p.shape.d q)
      → ds ≡ cosine_distances_up_to p.leaves.coords.now p.shape.d (row_of cs p.shape.d 0) p.shape.m
      → Held p generator 1 (held_by cs ds q.generator)
  unfolding seeds_up_to
  held_first centers cs ds q lc eq ec ed =
      let coords = p.leaves.coords.now in
      let m = p.shape.m in
      let d = p.shape.d in
      let first = pick_of p.leaves.weights.now generator in
      let row = seed_row coords d first in
      let lr : length row ≡ d = seed_row_length coords m d first.index p.fit.coords_long (first_below p generator) in
      let zeros : 0 * d ≤ length centers = rw zero-mul (omega arith) in
      let put : row_of (put_part centers (0 * d) d row) d 0 ≡ row = part_put centers (0 * d) d row lr zeros in
      let front : take (1 * d) (put_part centers (0 * d) d row) ≡ row = take_row centers row 0 d lr zeros ∙ rw zero-mul in
      let more : cs ≡ put_part centers (0 * d) d row = ec ∙ ap (λ (x : Picked). put_part centers (0 * d) d (seed_row coords d x)) eq in
      let by : row_of cs d 0 ≡ row = ap (λ (x : List Float). row_of x d 0) more ∙ put in
      record {
        centers = ap (λ (x : List Float). take (1 * d) x) more ∙ front;
        distances = ed ∙ ap (λ (r : List Float). cosine_distances_up_to coords d r m) by;
        generator_is = ap (λ (x : Picked). x.generator) eq;
      }

  pub held_turn : (s s' : Seeds) (c : ℕ) → 0 < c → c < p.shape.k → length s.centers ≡ p.shape.k * p.shape.d
      → length s.distances ≡ p.shape.m → Held p generator c s
      → SeededNext p.leaves.weights.now p.leaves.coords.now p.shape.d c s s' → Held p generator (c + 1) s'
  unfolding seeds_up_to
  held_turn s s' c hc h lc ld g n =
      let ws = p.leaves.weights.now in
      let coords = p.leaves.coords.now in
      let d = p.shape.d in
      let before = chosen p generator c in
      let f : c + 1 - 1 ≡ suc (c - 1) = omega arith in
      let next = next_pick ws s in
      let row = seed_row coords d next in
      let lr : length row ≡ d = seed_row_length coords p.shape.m d next.index p.fit.coords_long (index_below p s ld) in
      let within : c * d ≤ length s.centers = omega (arith, lc, row_within c p.shape.k d h) in
      let same : next ≡ pick_of (chances ws before.distances) before.generator = rw (g.distances, g.generator_is) in
      let same_row : row ≡ seed_row coords d (pick_of (chances ws before.distances) before.generator) = ap (seed_row coords d) same in
      let grown : take ((c + 1) * d) s'.centers ≡ before.centers ++ row =
      ap (λ (x : List Float). take ((c + 1) * d) x) n.centers ∙ take_row s.centers row c d lr within
      ∙ ap (λ (x : List Float). x ++ row) g.centers in
      let lower : s'.distances ≡ lowered coords d row 0 before.distances =
      n.distances ∙ ap (λ (x : List Float). lowered coords d row 0 x) g.distances in
      record {
        centers = rw f (grown ∙ ap (λ (x : List Float). before.centers ++ x) same_row);
        distances = rw f (lower ∙ ap (λ (x : List Float). lowered coords d x 0 before.distances) same_row);
        generator_is = rw f (n.generator_is ∙ ap (λ (x : Picked). x.generator) same);
      }

  pub held_end : (s : Seeds) (c : ℕ) → c ≡ p.shape.k → length s.centers ≡ p.shape.k * p.shape.d → Held p generator c s
      → let all = seeds_of p.leaves.weights.now p.leaves.coords.now p.shape.m p.shape.k p.shape.d generator in
      (s.centers ≡ all.centers) × (s.generator ≡ all.generator)
  held_end s c e lc g =
      let k = p.shape.k in
      let h : Held p generator k s = subst (λ (n : ℕ). Held p generator n s) e g in
      (sym (take_all (k * p.shape.d) s.centers (omega (arith, lc))) ∙ h.centers, h.generator_is)
