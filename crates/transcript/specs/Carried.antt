-- What carrying out a use of a transcript on a text comes to.
use Rattle.std.specs.Prelude.{vec_items, ◌≡◌, ℕ, ◌<◌, ◌⊎◌, List, [], ◌∷◌}
use Rattle.std.specs.Prelude.{◌++◌, length, take, Some, None, Option, Ok, Err, Result}
use Rattle.charset.specs.Meaning.{Meaning}
use Rattle.transcript.specs.declared.TheConstants.{LONGEST_SECTOR}
use Rattle.conversion.specs.declared.Fault.{Fault}
use Rattle.transcript.specs.declared.answers.FaultAt.{FaultAt}
use Rattle.transcript.specs.declared.answers.Refusal.{Refusal}
use Rattle.transcript.specs.declared.answers.Refusal.TheVariants as refusal
use Rattle.transcript.specs.declared.answers.State.TheVariants as state
use Rattle.transcript.specs.declared.answers.Status.{Status}
use Rattle.transcript.specs.declared.transcription.Failure.{Failure}
use Rattle.transcript.specs.declared.transcription.Failure.TheVariants.{NoMemory, TooLong, Faulted}
use Rattle.transcript.specs.declared.transcription.Transcription.{Transcription}
use Rattle.conversion.specs.Transcribed.{TheTranscription}
use Rattle.transcript.specs.Calls.{Snapshot, OfferAnswer}
use Rattle.transcript.specs.Uses.{Event, start, offer, close, status, Use, taken_in, written_in}
use Rattle.transcript.specs.Law.{Feeds}

-- all is transcribed, or a fault is met
abbrev pub Outcome : Type 0
Outcome = Result (Unit {0}) FaultAt

abbrev pub fault_in : Outcome → Option Fault
fault_in (Ok u) = None
fault_in (Err f) = Some f.fault

-- how many bytes are transcribed
abbrev pub offset_in : List ℕ → Outcome → ℕ
offset_in bytes (Ok u) = length bytes
offset_in bytes (Err f) = f.offset

-- an answer that is taken or meets a fault, as an answer of a transcript
abbrev pub refused_by : {X : Type 0} → Result X FaultAt → Result X Refusal
refused_by (Ok x) = Ok x
refused_by (Err f) = Err (refusal.Faulted f)

-- an offer that is taken or meets a fault, and no other: in particular no output was too small
abbrev pub TakenOrFaulted : OfferAnswer → Type 0
TakenOrFaulted (Ok d) = Unit {0}
TakenOrFaulted (Err refusal.SectorTooLong) = ⊥
TakenOrFaulted (Err refusal.OutputTooLong) = ⊥
TakenOrFaulted (Err refusal.SourceTooLong) = ⊥
TakenOrFaulted (Err (refusal.Standing f)) = ⊥
TakenOrFaulted (Err refusal.AlreadyClosed) = ⊥
TakenOrFaulted (Err (refusal.Faulted f)) = Unit {0}
TakenOrFaulted (Err (refusal.Full d)) = ⊥

abbrev pub AllTakenOrFaulted : List Event → Type 0
AllTakenOrFaulted [] = Unit {0}
AllTakenOrFaulted (start ∷ past) = AllTakenOrFaulted past
AllTakenOrFaulted (offer sector out r after ∷ past) = TakenOrFaulted r × AllTakenOrFaulted past
AllTakenOrFaulted (close r ∷ past) = AllTakenOrFaulted past
AllTakenOrFaulted (status r ∷ past) = AllTakenOrFaulted past

-- the next piece of a text of which these bytes were taken: the first LONGEST_SECTOR bytes of what
-- is left, or all of it where it is shorter
pub record NextPiece (bytes taken sector : List ℕ) : Type 0 where
  pub rest : List ℕ
  pub parts : bytes ≡ taken ++ rest
  pub some_left : 0 < length rest
  pub piece : sector ≡ take LONGEST_SECTOR rest

-- the sectors are the text cut into such pieces
abbrev pub InPieces : List ℕ → List Event → Type 0
InPieces bytes [] = Unit {0}
InPieces bytes (start ∷ past) = InPieces bytes past
InPieces bytes (offer sector out r after ∷ past) =
    NextPiece bytes (taken_in past) sector × InPieces bytes past
InPieces bytes (close r ∷ past) = InPieces bytes past
InPieces bytes (status r ∷ past) = InPieces bytes past

-- after offers of the bytes a last one faulted, or they were all taken and a closing was answered;
-- then came a status call
abbrev pub Ended : List ℕ → List Event → List Event → Snapshot → Outcome → Status
    → Type 0
Ended bytes offers events last outcome told =
    ((f : FaultAt) × (outcome ≡ Err f) × (last.state ≡ state.Faulted f)
    × (events ≡ status told ∷ offers))
    ⊎ ((taken_in offers ≡ bytes)
    × (events ≡ status told ∷ (close (refused_by outcome) ∷ offers)))

-- a use of a transcript in which the bytes were offered piece after piece, and what it came to
pub record CarriedOut (S T : Meaning) (bytes text : List ℕ) (characters : ℕ)
    (outcome : Outcome) : Type 0 where
  pub offers : List Event
  pub events : List Event
  pub last : Snapshot
  pub told : Status
  pub used : Use S T events last
  pub fed : Feeds bytes offers
  pub in_pieces : InPieces bytes offers
  pub taken_or_faulted : AllTakenOrFaulted offers
  pub ended : Ended bytes offers events last outcome told
  pub text_is : text ≡ written_in events
  pub characters_is : characters ≡ told.characters

-- a text of so many characters and an outcome are what the bytes are in another set: the characters
-- up to the end or a fault, and no other, by a use of a transcript
pub record IsTranscription (S T : Meaning) (bytes text : List ℕ) (characters : ℕ) (o : Outcome)
    : Type 0 where
  pub the_transcription : TheTranscription S T bytes text characters (offset_in bytes o)
      (fault_in o)
  pub carried_out : CarriedOut S T bytes text characters o

-- the answer to a text: all of it or a fault is told, with what was transcribed; a text that is too
-- long is not begun; and where memory is wanting nothing is said of what was
abbrev pub Transcribes : Meaning → Meaning → (bytes text : List ℕ) → (characters : ℕ)
    → Result (Unit {0}) Failure → Type 0
Transcribes S T bytes text characters (Ok u) = IsTranscription S T bytes text characters (Ok tt)
Transcribes S T bytes text characters (Err NoMemory) = Unit {0}
Transcribes S T bytes text characters (Err TooLong) = (text ≡ []) × (characters ≡ 0)
Transcribes S T bytes text characters (Err (Faulted f)) =
    IsTranscription S T bytes text characters (Err f)

abbrev pub TranscribesInto : Meaning → Meaning → List ℕ → Transcription
    → Result (Unit {0}) Failure → Type 0
TranscribesInto S T bytes p r = Transcribes S T bytes (vec_items p.text) p.characters r

-- the fault that an answer tells
abbrev pub fault_told_in : Result (Unit {0}) Failure → Option Fault
fault_told_in (Ok u) = None
fault_told_in (Err NoMemory) = None
fault_told_in (Err TooLong) = None
fault_told_in (Err (Faulted f)) = Some f.fault
