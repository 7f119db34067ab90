-- `leaf_file::fit_leaves` meets its contract: it is the automatic fit in arrays of its own. Assumes nothing.
use mathlib.Core.Path.{refl}
use Rattle.mixture_outputs.specs.Outputs.{arrays}
use Rattle.leaf_file.proofs.Fits.{fit_by}
use Rattle.leaf_file.proofs.fit_leaves.Goals as goal

pub returns : goal.returns
unfolding lib.Ieee.of_bits
returns c =
    let a = c.args in
    let f = c.movmf_auto in
    let o = arrays f.new.labels f.new.responsibilities f.new.group_weights f.new.directions f.new.concentrations f.new.logw in
    let both = fit_by a.weights.now a.coords.now a.d a.labels.now _ _ _ _ _ _ _ refl refl refl refl refl refl refl
    (record { answer = f.result; outputs = o }) f.ensures.logw_after f.ensures.answer_keeps_best in
    record { fact = both.0; leaves_keep_best = both.1 }
