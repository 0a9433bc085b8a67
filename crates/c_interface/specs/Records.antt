-- A transcript between two forms of text, as numbers.
use Rattle.std.specs.Prelude.{◌≡◌, ℕ, ◌⊎◌, ◌≢◌}
use Rattle.charset.specs.Meaning.{IsOpening, IsCodePoint}
use Rattle.charset.specs.Padding.{padded}
use Rattle.conversion.specs.declared.Fault.{Fault}
use Rattle.conversion.specs.declared.Fault.TheVariants.{Unread, Unwritten, Unfinished}
use Rattle.transcript.specs.declared.answers.Done.{Done}
use Rattle.transcript.specs.declared.answers.FaultAt.{FaultAt}
use Rattle.transcript.specs.declared.answers.Refusal.TheVariants as refusal
use Rattle.transcript.specs.declared.answers.State.{State}
use Rattle.transcript.specs.declared.answers.State.TheVariants.{Open, Faulted, Closed}
use Rattle.transcript.specs.declared.answers.Status.{Status}
use Rattle.transcript.specs.declared.answers.Told.{Told}
use Rattle.transcript.specs.Told.{alone, told}
use Rattle.roll.specs.declared.page.Form.{Form}
use Rattle.roll.specs.declared.page.Form.TheVariants.{Basic}
use Rattle.roll.specs.Forms.{form_number}
use Rattle.forms.specs.FormSets.{form_set}
use Rattle.transcript.specs.Calls.{Snapshot, done, status_of}
use Rattle.transcript.specs.Snapshots.{Counts}
use Rattle.c_interface.specs.declared.record.StatusRecord.{StatusRecord}
use Rattle.c_interface.specs.declared.record.TranscriptRecord.{TranscriptRecord}

-- a fault as its refusal is told, and always with what the offer that met it took and wrote
abbrev pub fault_record : FaultAt → Told
fault_record f =
    record (told (refusal.Faulted f)) { taken = f.done.taken; written = f.done.written }

abbrev pub state_number : State → ℕ
state_number Open = 0
state_number (Faulted f) = 1
state_number Closed = 2

-- the fault that stands, or all 0
abbrev pub state_fault : State → Told
state_fault Open = alone 0
state_fault (Faulted f) = fault_record f
state_fault Closed = alone 0

abbrev pub status_record : Status → StatusRecord
status_record u =
    record {
      fault = state_fault u.state;
      taken = u.taken;
      characters = u.characters;
      written = u.written;
      held = u.held;
      state = state_number u.state;
    }

abbrev pub record_of : (source target : Form) → Snapshot → TranscriptRecord
record_of f g s =
    record {
      status = status_record (status_of s);
      source = form_number f;
      target = form_number g;
      bytes = padded s.held;
    }

-- a fault that a transcript can meet, by an offer or a closing that did that: a character is a code
-- point, and a closing, which alone finds a source unfinished, takes and writes nothing
abbrev pub CanMeet : Fault → Done → Type 0
CanMeet (Unread q) d = Unit {0}
CanMeet (Unwritten c q) d = IsCodePoint c
CanMeet Unfinished d = d ≡ done 0 0

abbrev pub CanStand : FaultAt → Type 0
CanStand f = CanMeet f.fault f.done

-- a state that a transcript can be in
abbrev pub CanBeIn : State → Type 0
CanBeIn Open = Unit {0}
CanBeIn (Faulted f) = CanStand f
CanBeIn Closed = Unit {0}

-- the record keeps a transcript between two forms that has come to that: it holds an opening of its
-- source set, and is in a state in which a transcript can be
pub record Keeps (r : TranscriptRecord) (source target : Form) (s : Snapshot) : Type 0 where
  pub numbers : r ≡ record_of source target s
  pub counts : Counts s
  pub opening : IsOpening (form_set source) s.held
  pub can_be : CanBeIn s.state

-- the fault has these numbers, and can stand
pub record HasFault (t : Told) (f : FaultAt) : Type 0 where
  pub numbers : t ≡ fault_record f
  pub can_stand : CanStand f

-- the status is in that state, in which a transcript can be, and has the fault that stands in it
pub record HasState (r : StatusRecord) (s : State) : Type 0 where
  pub number : r.state ≡ state_number s
  pub fault : r.fault ≡ state_fault s
  pub can_be : CanBeIn s

-- the status has these numbers, and a state in which a transcript can be
pub record HasStatus (r : StatusRecord) (u : Status) : Type 0 where
  pub numbers : r ≡ status_record u
  pub can_be : CanBeIn u.state

-- no form, no fault, no state, no status, no transcript has such numbers
abbrev pub NoForm : ℕ → Type 0
NoForm n = (f : Form) → n ≢ form_number f

abbrev pub NoFault : Told → Type 0
NoFault t = (f : FaultAt) → HasFault t f → ⊥

abbrev pub NoState : StatusRecord → Type 0
NoState r = (s : State) → HasState r s → ⊥

abbrev pub NoStatus : StatusRecord → Type 0
NoStatus r = (u : Status) → HasStatus r u → ⊥

abbrev pub NoTranscript : TranscriptRecord → Type 0
NoTranscript r = (f g : Form) (s : Snapshot) → Keeps r f g s → ⊥

-- no record keeps two transcripts
abbrev pub OneTranscript : Type 0
OneTranscript =
    (r : TranscriptRecord) (f g f' g' : Form) (s s' : Snapshot) → Keeps r f g s
    → Keeps r f' g' s' → (f ≡ f') × (g ≡ g') × (s ≡ s')

-- the set of one of the two forms has a list, which wants memory
abbrev pub WantsMemory : (source target : Form) → Type 0
WantsMemory f g = (f ≡ Basic) ⊎ (g ≡ Basic)
