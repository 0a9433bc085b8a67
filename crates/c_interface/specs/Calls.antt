-- What each call of a C client does to the record, and what it answers.
use Rattle.std.specs.Prelude.{◌≡◌, ℕ, ◌⊎◌, Bool, true, false, List, Ok, Err, Result}
use Rattle.transcript.specs.declared.answers.Done.{Done}
use Rattle.transcript.specs.declared.answers.Told.{Told}
use Rattle.transcript.specs.Told.{alone, with_done}
use Rattle.transcript.specs.Law.{TranscriptionLaw}
use Rattle.roll.specs.declared.page.Form.{Form}
use Rattle.roll.specs.Forms.{form_number}
use Rattle.forms.specs.FormSets.{form_set}
use Rattle.transcript.specs.Calls.{Snapshot, fresh, done, status_of}
use Rattle.transcript.specs.Uses.{Event, start, offer, close, Step}
use Rattle.c_interface.specs.declared.record.StatusRecord.{StatusRecord}
use Rattle.c_interface.specs.declared.record.TranscriptRecord.{TranscriptRecord}
use Rattle.c_interface.specs.declared.refusal.CallRefusal.{CallRefusal}
use Rattle.c_interface.specs.declared.refusal.CallRefusal.TheVariants as refusal
use Rattle.c_interface.specs.Refusals.{call_told}
use Rattle.c_interface.specs.Records.{status_record, Keeps, NoForm, NoTranscript, WantsMemory}

-- ---- the answer

-- what an offer comes to, and what any other call comes to
abbrev pub OfferOutcome : Type 0
OfferOutcome = Result Done CallRefusal

abbrev pub CallOutcome : Type 0
CallOutcome = Result (Unit {0}) CallRefusal

-- true and what an offer did, or false and why the call does not succeed
abbrev pub Answers : OfferOutcome → Told → Bool → Type 0
Answers (Ok d) answer succeeds = (answer ≡ with_done (alone 0) d) × (succeeds ≡ true)
Answers (Err q) answer succeeds = (answer ≡ call_told q) × (succeeds ≡ false)

-- a call that is no offer did nothing with buffers
abbrev pub with_nothing : CallOutcome → OfferOutcome
with_nothing (Ok u) = Ok (done 0 0)
with_nothing (Err q) = Err q

-- an offer comes to an outcome, and answers it
pub record AnswersOffer (ComesTo : OfferOutcome → Type 0) (answer : Told) (succeeds : Bool)
    : Type 0 where
  pub outcome : OfferOutcome
  pub comes : ComesTo outcome
  pub answers : Answers outcome answer succeeds

-- any other call comes to an outcome, and answers it
pub record AnswersCall (ComesTo : CallOutcome → Type 0) (answer : Told) (succeeds : Bool)
    : Type 0 where
  pub outcome : CallOutcome
  pub comes : ComesTo outcome
  pub answers : Answers (with_nothing outcome) answer succeeds

-- ---- the record

-- the record keeps a transcript that is started, between the forms of these numbers
pub record KeepsStarted (m n : ℕ) (r : TranscriptRecord) : Type 0 where
  pub source : Form
  pub target : Form
  pub source_number : m ≡ form_number source
  pub target_number : n ≡ form_number target
  pub kept : Keeps r source target fresh

-- the transcript that the record keeps makes a step, and the record keeps what it has come to
pub record RecordSteps (old : TranscriptRecord) (e : Event) (new : TranscriptRecord) : Type 0 where
  pub source : Form
  pub target : Form
  pub before : Snapshot
  pub after : Snapshot
  pub kept : Keeps old source target before
  pub step : Step (form_set source) (form_set target) before e after
  pub keeps : Keeps new source target after

-- the record keeps a transcript whose sets want memory
pub record RecordWantsMemory (r : TranscriptRecord) : Type 0 where
  pub source : Form
  pub target : Form
  pub come : Snapshot
  pub kept : Keeps r source target come
  pub wants : WantsMemory source target

-- the status is that of the transcript that the record keeps
pub record RecordTells (r : TranscriptRecord) (status : StatusRecord) : Type 0 where
  pub source : Form
  pub target : Form
  pub come : Snapshot
  pub kept : Keeps r source target come
  pub told : status ≡ status_record (status_of come)

-- the sets of the transcript that the record keeps have the law of transcription
abbrev pub RecordLaw : TranscriptRecord → Type 0
RecordLaw r =
    (source target : Form) (come : Snapshot) → Keeps r source target come
    → TranscriptionLaw (form_set source) (form_set target)

-- ---- the calls

-- the two numbers are those of the source and of the target
abbrev pub Opens : ℕ → ℕ → (old new : TranscriptRecord) → CallOutcome → Type 0
Opens m n old new (Ok u) = KeepsStarted m n new
Opens m n old new (Err refusal.UnknownForm) = (NoForm m ⊎ NoForm n) × (new ≡ old)
Opens m n old new (Err refusal.NoMemory) = ⊥
Opens m n old new (Err refusal.NoTranscript) = ⊥
Opens m n old new (Err (refusal.Refused q)) = ⊥

-- starting again needs no set
abbrev pub Starts : (old new : TranscriptRecord) → CallOutcome → Type 0
Starts old new (Ok u) = RecordSteps old start new
Starts old new (Err refusal.NoTranscript) = NoTranscript old × (new ≡ old)
Starts old new (Err refusal.NoMemory) = ⊥
Starts old new (Err refusal.UnknownForm) = ⊥
Starts old new (Err (refusal.Refused q)) = ⊥

abbrev pub Offers : (old new : TranscriptRecord) → (sector out after : List ℕ) → OfferOutcome
    → Type 0
Offers old new sector out after (Ok d) = RecordSteps old (offer sector out (Ok d) after) new
Offers old new sector out after (Err (refusal.Refused q)) =
    RecordSteps old (offer sector out (Err q) after) new
Offers old new sector out after (Err refusal.NoTranscript) =
    NoTranscript old × (new ≡ old) × (after ≡ out)
Offers old new sector out after (Err refusal.NoMemory) =
    RecordWantsMemory old × (new ≡ old) × (after ≡ out)
Offers old new sector out after (Err refusal.UnknownForm) = ⊥

abbrev pub Closes : (old new : TranscriptRecord) → CallOutcome → Type 0
Closes old new (Ok u) = RecordSteps old (close (Ok u)) new
Closes old new (Err (refusal.Refused q)) = RecordSteps old (close (Err q)) new
Closes old new (Err refusal.NoTranscript) = NoTranscript old × (new ≡ old)
Closes old new (Err refusal.NoMemory) = RecordWantsMemory old × (new ≡ old)
Closes old new (Err refusal.UnknownForm) = ⊥

abbrev pub Tells : TranscriptRecord → (old new : StatusRecord) → CallOutcome → Type 0
Tells r old new (Ok u) = RecordTells r new
Tells r old new (Err refusal.NoTranscript) = NoTranscript r × (new ≡ old)
Tells r old new (Err refusal.NoMemory) = ⊥
Tells r old new (Err refusal.UnknownForm) = ⊥
Tells r old new (Err (refusal.Refused q)) = ⊥
