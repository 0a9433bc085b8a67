-- That the causes of writing change nothing but what a 7 says.
use Rattle.std.specs.Prelude.{◌≡◌, ℕ, List, map, Ok, Err, Result}
use Rattle.charset.specs.Meaning.{Meaning, Laws}
use Rattle.conversion.specs.declared.Fault.{Fault}
use Rattle.conversion.specs.declared.Fault.TheVariants.{Unread, Unwritten, Unfinished}
use Rattle.transcript.specs.declared.answers.FaultAt.{FaultAt}
use Rattle.transcript.specs.declared.answers.Refusal.{Refusal}
use Rattle.transcript.specs.declared.answers.Refusal.TheVariants as refusal
use Rattle.transcript.specs.declared.answers.State.{State}
use Rattle.transcript.specs.declared.answers.State.TheVariants.{Open, Faulted, Closed}
use Rattle.transcript.specs.declared.answers.Status.{Status}
use Rattle.transcript.specs.declared.answers.Told.{Told}
use Rattle.transcript.specs.Told.{told_fault}
use Rattle.transcript.specs.Calls.{Snapshot}
use Rattle.transcript.specs.Stacks.{Layer, stack}
use Rattle.transcript.specs.Uses.{Event, start, offer, close, status, Use, taken_in, written_in}

-- two sets differ in the causes of writing alone
pub record SameButForWriteCauses (m n : Meaning) : Type 0 where
  pub codings : m.codings ≡ n.codings
  pub openings : m.openings ≡ n.openings
  pub causes : m.causes ≡ n.causes

-- ---- the same calls

-- a call with its buffers, without what it answers and writes
pub data Asked : Type 0 where
  to_start : Asked
  to_offer : (sector out : List ℕ) → Asked
  to_close : Asked
  to_tell : Asked

abbrev pub asked : Event → Asked
asked start = to_start
asked (offer sector out r after) = to_offer sector out
asked (close r) = to_close
asked (status r) = to_tell

abbrev pub SameCalls : (past past' : List Event) → Type 0
SameCalls past past' = map asked past ≡ map asked past'

-- ---- what is told, bare of the cause and depth that come with a 7: they are 0

abbrev pub bare_fault : Fault → Fault
bare_fault (Unread q) = Unread q
bare_fault (Unwritten c q) = Unwritten c (record { cause = 0; depth = 0 })
bare_fault Unfinished = Unfinished

abbrev pub bare_at : FaultAt → FaultAt
bare_at f = record f { fault = bare_fault f.fault }

abbrev pub bare_state : State → State
bare_state Open = Open
bare_state (Faulted f) = Faulted (bare_at f)
bare_state Closed = Closed

abbrev pub bare_refusal : Refusal → Refusal
bare_refusal refusal.SectorTooLong = refusal.SectorTooLong
bare_refusal refusal.OutputTooLong = refusal.OutputTooLong
bare_refusal refusal.SourceTooLong = refusal.SourceTooLong
bare_refusal (refusal.Standing f) = refusal.Standing (bare_at f)
bare_refusal refusal.AlreadyClosed = refusal.AlreadyClosed
bare_refusal (refusal.Faulted f) = refusal.Faulted (bare_at f)
bare_refusal (refusal.Full d) = refusal.Full d

abbrev pub bare_answer : {X : Type 0} → Result X Refusal → Result X Refusal
bare_answer (Ok x) = Ok x
bare_answer (Err q) = Err (bare_refusal q)

abbrev pub bare_status : Status → Status
bare_status u = record u { state = bare_state u.state }

abbrev pub bare_event : Event → Event
bare_event start = start
bare_event (offer sector out r after) = offer sector out (bare_answer r) after
bare_event (close r) = close (bare_answer r)
bare_event (status r) = status (bare_status r)

abbrev pub bare_snapshot : Snapshot → Snapshot
bare_snapshot s = record s { state = bare_state s.state }

-- ---- the law

-- two faults have the same number, place and character, and the offers that met them did the same
pub record TellSame (t u : Told) : Type 0 where
  pub number : t.number ≡ u.number
  pub offset : t.offset ≡ u.offset
  pub character : t.character ≡ u.character
  pub taken : t.taken ≡ u.taken
  pub written : t.written ≡ u.written

-- two uses are the same, but for the cause and depth that come with a 7
pub record SameUse (past past' : List Event) (s s' : Snapshot) : Type 0 where
  -- each call was answered alike, with the same output after it, and both have come to the same
  pub answers : map bare_event past ≡ map bare_event past'
  pub come_to : bare_snapshot s ≡ bare_snapshot s'
  -- so the same was taken and written and is held, and the same fault stands, if one does
  pub taken : taken_in past ≡ taken_in past'
  pub written : written_in past ≡ written_in past'
  pub held : s.held ≡ s'.held
  pub fault : (f : FaultAt) → s.state ≡ Faulted f
      → (g : FaultAt) × (s'.state ≡ Faulted g) × TellSame (told_fault f) (told_fault g)

-- the same calls are a use between S and T too, the only one, and it is the same
pub record AlsoBetween (S T : Meaning) (past : List Event) (s : Snapshot) : Type 0 where
  pub past' : List Event
  pub s' : Snapshot
  pub used : Use S T past' s'
  pub same_calls : SameCalls past past'
  pub only : (q : List Event) (u : Snapshot) → Use S T q u → SameCalls past q
      → (q ≡ past') × (u ≡ s')
  pub same : SameUse past past' s s'

-- so it is after each call of every use between two sets, for all sets that differ from these in
-- the causes of writing alone
abbrev pub SameBytes : Meaning → Meaning → Type 0
SameBytes S T =
    (S' T' : Meaning) (past : List Event) (s : Snapshot) → Laws S' → SameButForWriteCauses S S'
    → SameButForWriteCauses T T' → Use S T past s → AlsoBetween S' T' past s

-- and sets that differ in the causes of writing alone do so under every stack of layers
abbrev pub SameUnderLayers : Type 0
SameUnderLayers =
    (ys : List Layer) (m n : Meaning) → SameButForWriteCauses m n
    → SameButForWriteCauses (stack ys m) (stack ys n)
