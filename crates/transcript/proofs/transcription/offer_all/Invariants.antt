use Rattle.std.proofs.Common.{◌≡◌, length, vec_items}
use Rattle.std.specs.Slice.Iter.{chunks_rest, chunks_size}
use Rattle.charset.specs.Sets.{set_of}
use Rattle.transcript.specs.Snapshots.{snapshot}
use Rattle.transcript.proofs.Along.{Along}
use Rattle.transcript.proofs.transcription.offer_all.Given as goal

abbrev pub invariant-loop-sector : goal.invariant-loop-sector
invariant-loop-sector g l =
    (goal.iterator-loop-sector g).can_next l.sector-iterator
    × (goal.iterator-loop-sector g).is_finite l.sector-iterator
    × (chunks_size l.sector-iterator ≡ 4096)
    × (l.transcript.converter.sets.source ≡ l.initial.transcript.converter.sets.source)
    × (l.transcript.converter.sets.target ≡ l.initial.transcript.converter.sets.target)
    × (length l.output ≡ 16396)
    × Along (set_of g.S.CharacterSet l.initial.transcript.converter.sets.source)
    (set_of g.T.CharacterSet l.initial.transcript.converter.sets.target)
    l.bytes (vec_items l.text) (chunks_rest l.sector-iterator) (snapshot l.transcript.progress)
