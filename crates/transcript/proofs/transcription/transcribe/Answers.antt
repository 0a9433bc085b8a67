use Rattle.charset.specs.Sets.{set_of}
use Rattle.transcript.specs.Law.{TranscriptionLaw}
use Rattle.transcript.specs.SameBytes.{SameBytes}
use Rattle.transcript.proofs.Back.{transcription_law}
use Rattle.transcript.proofs.SameBytes.{same_bytes}
use Rattle.transcript.proofs.transcription.transcribe.Given.{Over}
use Rattle.transcript.proofs.transcription.transcribe.Goals as goal

its_law : (g : Over) (x : g.row.S.Denot) (y : g.row.T.Denot)
    → TranscriptionLaw (set_of g.S.CharacterSet x) (set_of g.T.CharacterSet y)
its_law g x y =
    transcription_law _ _ (g.met.S.CharacterSet.lawful x) (g.met.T.CharacterSet.lawful y)

pub returns-then-bytes-gt-LONGEST_SOURCE-clause-its_law :
    goal.returns-then-bytes-gt-LONGEST_SOURCE-clause-its_law
returns-then-bytes-gt-LONGEST_SOURCE-clause-its_law g c = its_law g c.args.source c.args.target

pub returns-clause-its_law : goal.returns-clause-its_law
returns-clause-its_law g c = its_law g c.args.source c.args.target

bytes_stay : (g : Over) (x : g.row.S.Denot) (y : g.row.T.Denot)
    → SameBytes (set_of g.S.CharacterSet x) (set_of g.T.CharacterSet y)
bytes_stay g x y = same_bytes _ _ (g.met.S.CharacterSet.lawful x)

pub returns-then-bytes-gt-LONGEST_SOURCE-clause-same_bytes :
    goal.returns-then-bytes-gt-LONGEST_SOURCE-clause-same_bytes
returns-then-bytes-gt-LONGEST_SOURCE-clause-same_bytes g c =
    bytes_stay g c.args.source c.args.target

pub returns-clause-same_bytes : goal.returns-clause-same_bytes
returns-clause-same_bytes g c = bytes_stay g c.args.source c.args.target
