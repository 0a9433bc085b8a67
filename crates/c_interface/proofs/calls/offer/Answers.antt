use Rattle.std.proofs.Common.{rules}
use Rattle.transcript.specs.Transcripts.{source_set, target_set, come_to}
use Rattle.c_interface.proofs.Stays.{offer_kept}
use Rattle.c_interface.proofs.calls.offer.Goals as goal

pub record-requires : goal.record-requires
record-requires c =
    let t = c.in_ok-transcript.transcript in
    let as_kept = c.in_ok-transcript.ensures.resumed in
    offer_kept c.in_ok-resumed.resumed (source_set t) (target_set t) as_kept.source (come_to t) _
    as_kept.come (search rules) c.progress-resumed.result c.progress-resumed.ensures
    c.args.sector.now c.args.output.now c.offer-outcome.result _ c.offer-outcome.ensures.step
