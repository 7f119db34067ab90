-- Laws of flat lists: parts and rows. By recursion on the list. Assumes nothing.
use mathlib.Core.Path.{◌≡◌, refl, ap, ◌∙◌}
use mathlib.Core.List.{List, [], ◌∷◌, ◌++◌, append_assoc, append-nil}
use Prim.Native.Nat.{ℕ, zero, suc, ◌+◌, ◌*◌, ◌-◌, ◌≤◌, ◌<◌}
use native.Mathlib.Nat.{suc-mul, add-mul, mul-le-mul_right}
use native.Mathlib.Numerals.{add-one}
use native.Mathlib.Omega.{arith}
use lib.ListN.{length, get_or, take, drop, set, drop_of_length-le, length-append, length-drop, take-append-drop}
use lib.Seq.{drop-drop, take-take, length-take-le, take_at, drop_at, get_or-take, get_or-drop, drop-cons, set_at}
use lib.Seq.{paste, paste-suc, drop-paste}
use Rattle.rows.specs.Rows.{part, put_part, row_of}

-- row c of k rows of d elements lies within k * d
pub row_within : (c k d : ℕ) → c < k → c * d + d ≤ k * d
row_within c k d h = rw (← suc-mul) (mul-le-mul_right d h)

module _ {A : Type 0} where
  pub length_part : (l : List A) (at n : ℕ) → at + n ≤ length l → length (part l at n) ≡ n
  length_part l at n h = length-take-le n (drop at l) (rw length-drop (omega arith))

  -- a part and a row as the code cuts them
  pub part_cut : (l : List A) (at n : ℕ) → take (at + n - at) (drop at l) ≡ part l at n
  part_cut l at n = let f : at + n - at ≡ n = omega arith in rw f

  pub row_cut : (l : List A) (d c : ℕ) → take (c * d + d - c * d) (drop (c * d) l) ≡ row_of l d c
  row_cut l d c = part_cut l (c * d) d

  -- an element of a row
  pub row_get : (l : List A) (d i c : ℕ) (z : A) → c < d → get_or (row_of l d i) c z ≡ get_or l (i * d + c) z
  row_get l d i c z h = get_or-take d (drop (i * d) l) c z h ∙ get_or-drop (i * d) l c z

  take_front : (l v : List A) (n : ℕ) → length v ≤ n → n ≤ length l
      → take n (v ++ drop (length v) l) ≡ v ++ drop (length v) (take n l)
  take_front l [] n h g = refl
  take_front l (x ∷ v) zero h g = absurd (omega arith)
  take_front [] (x ∷ v) (suc n) h g = absurd (omega arith)
  take_front (y ∷ l) (x ∷ v) (suc n) h g = ap (λ (r : List A). x ∷ r) (take_front l v n (omega arith) (omega arith))

  drop_front : (l v : List A) (n : ℕ) → length v ≤ n → n ≤ length l → drop n (v ++ drop (length v) l) ≡ drop n l
  drop_front l [] n h g = refl
  drop_front l (x ∷ v) zero h g = absurd (omega arith)
  drop_front [] (x ∷ v) (suc n) h g = absurd (omega arith)
  drop_front (y ∷ l) (x ∷ v) (suc n) h g = drop_front l v n (omega arith) (omega arith)

  -- a part that was replaced before the cut at n
  pub take_put : (l : List A) (at n : ℕ) (v : List A) → at + length v ≤ n → n ≤ length l
      → take n (put_part l at (length v) v) ≡ put_part (take n l) at (length v) v
  take_put l zero n v h g = take_front l v n (omega arith) g
  take_put [] (suc at) n v h g = absurd (omega arith)
  take_put (x ∷ l) (suc at) zero v h g = absurd (omega arith)
  take_put (x ∷ l) (suc at) (suc n) v h g = ap (λ (r : List A). x ∷ r) (take_put l at n v (omega arith) (omega arith))

  pub drop_put : (l : List A) (at n : ℕ) (v : List A) → at + length v ≤ n → n ≤ length l → drop n (put_part l at (length v) v) ≡ drop n l
  drop_put l zero n v h g = drop_front l v n (omega arith) g
  drop_put [] (suc at) n v h g = absurd (omega arith)
  drop_put (x ∷ l) (suc at) zero v h g = absurd (omega arith)
  drop_put (x ∷ l) (suc at) (suc n) v h g = drop_put l at n v (omega arith) (omega arith)

  -- and after it
  pub take_put_after : (l : List A) (at n p : ℕ) (v : List A) → n ≤ at → n ≤ length l → take n (put_part l at p v) ≡ take n l
  take_put_after l at zero p v h g = refl
  take_put_after [] at (suc n) p v h g = absurd (omega arith)
  take_put_after (x ∷ l) zero (suc n) p v h g = absurd (omega arith)
  take_put_after (x ∷ l) (suc at) (suc n) p v h g = ap (λ (r : List A). x ∷ r) (take_put_after l at n p v (omega arith) (omega arith))

  pub drop_put_after : (l : List A) (at n j p : ℕ) (v : List A) → at ≡ n + j → n ≤ length l
      → drop n (put_part l at p v) ≡ put_part (drop n l) j p v
  drop_put_after l at zero j p v e g = let f : at ≡ j = omega arith in rw f
  drop_put_after [] at (suc n) j p v e g = absurd (omega arith)
  drop_put_after (x ∷ l) zero (suc n) j p v e g = absurd (omega arith)
  drop_put_after (x ∷ l) (suc at) (suc n) j p v e g = drop_put_after l at n j p v (omega arith) (omega arith)

  -- the part that was replaced
  pub part_put : (l : List A) (at n : ℕ) (v : List A) → length v ≡ n → at ≤ length l → part (put_part l at n v) at n ≡ v
  part_put l at n v e h =
      let f : length (take at l) ≡ at = length-take-le at l h in
      rw (drop_at (take at l) (v ++ drop n (drop at l)) at f, take_at v (drop n (drop at l)) n e)

  -- a list replaced as a whole
  pub put_whole : (l v : List A) (n : ℕ) → length l ≤ n → put_part l 0 n v ≡ v
  put_whole l v n h = rw (drop_of_length-le l h, append-nil)

  pub part_take : (w : List A) (n i p : ℕ) → i + p ≤ n → part (take n w) i p ≡ part w i p
  part_take w n zero p h = take-take p n w (omega arith)
  part_take w zero (suc i) p h = absurd (omega arith)
  part_take [] (suc n) (suc i) p h = refl
  part_take (x ∷ w) (suc n) (suc i) p h = part_take w n i p (omega arith)

  -- row e of the n rows from row c on
  pub row_part : (l : List A) (d c n e : ℕ) → e < n → row_of (part l (c * d) (n * d)) d e ≡ row_of l d (c + e)
  row_part l d c n e h =
      let f : (c + e) * d ≡ c * d + e * d = add-mul c e d in
      part_take (drop (c * d) l) (n * d) (e * d) d (row_within e n d h) ∙ rw (drop-drop (e * d) (c * d) l, f)

  -- a copy from another list: one element more
  pub paste_turn : (w d s : List A) (to from j : ℕ) (v z : A) → w ≡ paste d to (drop from s) j → v ≡ get_or s (from + j) z → to + j < length d
      → from + j < length s → set w (to + j) v ≡ paste d to (drop from s) (j + 1)
  paste_turn w d s to from j v z e x h g =
      let long : length (drop from s) ≡ length s - from = length-drop from s in
      rw (e, x, add-one, ← get_or-drop from s j z) (paste-suc d to (drop from s) j z h (omega arith))

  -- a copy from a later place of the same list, which is read as it was: one element more
  pub copy_turn : (w w₀ : List A) (to from n j : ℕ) (v z : A) → w ≡ paste w₀ to (drop from w₀) j → v ≡ get_or w (from + j) z → to + n ≤ from
      → from + n ≤ length w₀ → j < n → set w (to + j) v ≡ paste w₀ to (drop from w₀) (j + 1)
  copy_turn w w₀ to from n j v z e x h g k =
      let f : from + j ≡ to + j + (from - to) = omega arith in
      let long : length (drop from w₀) ≡ length w₀ - from = length-drop from w₀ in
      let at : get_or w (from + j) z ≡ get_or w₀ (from + j) z =
      rw (e, f, ← get_or-drop (to + j) (paste w₀ to (drop from w₀) j) (from - to) z)
      (rw (drop-paste w₀ to (drop from w₀) j (omega arith) (omega arith)) (get_or-drop (to + j) w₀ (from - to) z)) in
      paste_turn w w₀ w₀ to from j v z e (x ∙ at) (omega arith) (omega arith)

  -- one place more of a part that is replaced place by place
  pub put_more : (w s : List A) (to c : ℕ) (v z : A) → length s ≡ c → to + c < length w → set (put_part w to c s) (to + c) v ≡ put_part w to (c + 1) (s ++ (v ∷ []))
  put_more w s to c v z l h =
      let g : c < length (drop to w) = rw length-drop (omega arith) in
      let p : length (take to w ++ s) ≡ to + c = length-append (take to w) s ∙ rw (length-take-le to w (omega arith), l) in
      rw (add-one, drop-cons (drop to w) c z, ← append_assoc (take to w) s (get_or (drop to w) c z ∷ drop (suc c) (drop to w)))
      (set_at (take to w ++ s) (get_or (drop to w) c z) (drop (suc c) (drop to w)) v (to + c) p ∙ rw (append_assoc, append_assoc))

  -- a part put in its own place
  pub put_same : (w : List A) (at n : ℕ) → put_part w at n (part w at n) ≡ w
  put_same w at n = rw (take-append-drop, take-append-drop)
