-- A call of `movmf_with` that is not refused doubles none: its leaves are within the limits. Assumes nothing.
use lib.ListN.{length}
use Rattle.limits.proofs.Limits.{groups_met}
use Rattle.mixture_restarts.proofs.Doubled.{fit_never_doubled}
use Rattle.movmf.specs.Doubled.{CallsNeverDoubled}
use Rattle.movmf.proofs.Outcomes.{admitted}

pub calls_never_doubled : CallsNeverDoubled
calls_never_doubled weights coords d k s l e =
    let r = admitted weights coords d k s l e in
    let g = groups_met k (length weights) r.admitted in
    fit_never_doubled s weights coords d k r.leaves g.0 g.2
