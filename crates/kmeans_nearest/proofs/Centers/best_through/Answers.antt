-- `best_through` meets its contract, by what `row_dots` and `with_dots` ensure. Assumes nothing.
use Rattle.kmeans_nearest.proofs.Nearest.{best_block}
use Rattle.kmeans_nearest.proofs.Centers.best_through.Goals as goal

pub returns : goal.returns
returns g c =
    let a = c.args in
    best_block a.x.now a.self.rows.now a.self.d a.c g.row.N a.b c.with_dots.result c.row_dots-f.result c.requires.start.0 c.requires.start.1
    c.row_dots-f.ensures c.with_dots.ensures
