use Rattle.charset.specs.Sets.{set_of}
use Rattle.transcript.proofs.Back.{transcription_law}
use Rattle.transcript.proofs.SameBytes.{same_bytes}
use Rattle.transcript.proofs.by_law.offer_by_law.Goals as goal

pub returns-clause-its_law : goal.returns-clause-its_law
returns-clause-its_law g c =
    let sets = c.args.transcript.now.converter.sets in
    transcription_law (set_of g.S.CharacterSet sets.source) (set_of g.T.CharacterSet sets.target)
    (g.met.S.CharacterSet.lawful sets.source) (g.met.T.CharacterSet.lawful sets.target)

pub returns-clause-same_bytes : goal.returns-clause-same_bytes
returns-clause-same_bytes g c =
    let sets = c.args.transcript.now.converter.sets in
    same_bytes (set_of g.S.CharacterSet sets.source) (set_of g.T.CharacterSet sets.target)
    (g.met.S.CharacterSet.lawful sets.source)
