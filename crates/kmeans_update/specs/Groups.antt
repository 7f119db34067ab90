-- What the functions of the update promise one another, group by group. No definition of document 01 stands on
-- this file.
use Rattle.std.specs.Prelude.{◌≡◌, List, ℕ, ◌<◌, get_or, set, Float}
use Rattle.rows.specs.Rows.{row_of}
use Rattle.vector.specs.Vectors.{dot_of}
use Rattle.kmeans_layout.specs.State.{State}
use Rattle.kmeans_layout.specs.Areas.{Same}
use Rattle.kmeans_layout.specs.declared.Area.{Area}
use Rattle.kmeans_update.specs.Update.{put_served, served_up_to, move_center}

-- leaf i is served by the centre of its label, and so are the first n leaves
module _ (coords : List Float) (d : ℕ) where
  abbrev pub serve_leaf : (i : ℕ) → State → State
  serve_leaf i s =
      put_served (set s.served i (dot_of (row_of coords d i) (row_of s.centers d (get_or s.labels i 0)))) s

  abbrev pub serve_leaves : (n : ℕ) → State → State
  serve_leaves n s = put_served (served_up_to coords d s n) s

-- centre c moves to where it stands: its drift is that of a centre which did not turn
abbrev pub keep_center : (d c : ℕ) → State → State
keep_center d c s = move_center d c (row_of s.centers d c) s

-- sizes, leaves, sums and counts are as they were
abbrev pub Around : (a a' : Area) → Type 0
Around a a' = Same a a' × (a'.sums.now ≡ a.sums.now) × (a'.counts.now ≡ a.counts.now)

-- what the update of group c leaves alone: of the sums the rows after its own
pub record Beside (c : ℕ) (a a' : Area) : Type 0 where
  pub same : Same a a'
  pub counts : a'.counts.now ≡ a.counts.now
  pub rows : (e : ℕ) → c < e → e < a.shape.k → row_of a'.sums.now a.shape.d e ≡ row_of a.sums.now a.shape.d e
