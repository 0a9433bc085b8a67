use Rattle.std.proofs.Common.{rules}
use Rattle.transcript.specs.Snapshots.{snapshot}
use Rattle.transcript.specs.Transcripts.{source_set, target_set, come_to}
use Rattle.c_interface.proofs.Stays.{close_kept, closed_so}
use Rattle.c_interface.proofs.calls.close.Goals as goal

pub record-requires : goal.record-requires
record-requires c =
    let t = c.in_ok-transcript.transcript in
    let as_kept = c.in_ok-transcript.ensures.resumed in
    close_kept c.in_ok-resumed.resumed (source_set t) (target_set t) as_kept.source (come_to t) _
    as_kept.come (search rules) c.progress-resumed.result c.progress-resumed.ensures
    c.close-outcome.result c.close-outcome.ensures.step

pub returns : goal.returns
returns c =
    let k = c.in_ok-resumed.resumed in
    let t = c.in_ok-transcript.transcript in
    record {
      source = k.source;
      target = k.target;
      before = come_to t;
      after = snapshot c.progress-resumed.result;
      kept = rw c.in_ok-transcript.ensures.resumed.come (search rules);
      step =
          closed_so (come_to t) _ c.progress-resumed.result c.progress-resumed.ensures
          c.close-outcome.result c.in_ok-outcome.was c.close-outcome.ensures.step;
      keeps = c.record.ensures;
    }
