-- A transcript between two forms of text, kept in a record and between its sets.
use Rattle.std.specs.Prelude.{◌≡◌}
use Rattle.charset.specs.declared.CharacterSet.{Ghosts}
use Rattle.charset.specs.Meaning.{IsOpening}
use Rattle.forms.specs.declared.FormSet.{FormSet}
use Rattle.forms.specs.FormSets.{form_set}
use Rattle.transcript.specs.declared.calls.Transcript.{Transcript}
use Rattle.transcript.specs.Snapshots.{snapshot}
use Rattle.transcript.specs.Transcripts.{source_set, target_set, come_to}
use Rattle.c_interface.specs.declared.form_transcript.FormTranscript.{FormTranscript}
use Rattle.c_interface.specs.declared.record.TranscriptRecord.{TranscriptRecord}
use Rattle.c_interface.specs.Records.{CanBeIn, Keeps}

-- the record keeps it
abbrev pub KeepsTranscript : TranscriptRecord → FormTranscript → Type 0
KeepsTranscript r k = Keeps r k.source k.target (snapshot k.progress)

-- a record can keep it: it holds an opening of its source set, and is in a state in which a
-- transcript can be
pub record CanBeKept (k : FormTranscript) : Type 0 where
  pub opening : IsOpening (form_set k.source) (snapshot k.progress).held
  pub can_be : CanBeIn (snapshot k.progress).state

-- the transcript is between the sets of its forms, and has come as far
pub record ResumesAs {g h : Ghosts FormSet} (k : FormTranscript)
    (t : Transcript FormSet FormSet g h) : Type 0 where
  pub source : source_set t ≡ form_set k.source
  pub target : target_set t ≡ form_set k.target
  pub come : come_to t ≡ snapshot k.progress
