-- `best_of_first` meets its contract: the first dot is the start of `best_to`, and `with_dots` goes on from it. Assumes nothing.
use Rattle.kmeans_nearest.proofs.Nearest.{best_first}
use Rattle.std.proofs.lemmas.List.{take_rest}
use lib.Ieee.{neg, div, of_bits}
use Rattle.kmeans_nearest.proofs.Centers.best_of_first.Goals as goal

pub returns : goal.returns
unfolding neg div of_bits
returns g c =
    let a = c.args in
    let f = c.row_dots-f.result in
    best_first a.x.now a.self.rows.now a.self.d g.row.N c.with_dots.result f c.requires.0 c.row_dots-f.ensures
    (rw (take_rest f 1) at c.with_dots.ensures)
