-- A use of a transcript: calls in any order and number, the newest first.
use Rattle.std.specs.Prelude.{◌≡◌, ℕ, List, [], ◌∷◌, ◌++◌, take, drop, Ok, Err}
use Rattle.charset.specs.Meaning.{Meaning}
use Rattle.transcript.specs.declared.answers.Done.{Done}
use Rattle.transcript.specs.declared.answers.Status.{Status}
use Rattle.transcript.specs.declared.answers.Refusal.TheVariants.{SectorTooLong, OutputTooLong}
use Rattle.transcript.specs.declared.answers.Refusal.TheVariants.{SourceTooLong, Standing}
use Rattle.transcript.specs.declared.answers.Refusal.TheVariants.{AlreadyClosed, Faulted, Full}
use Rattle.transcript.specs.Calls.{Snapshot, fresh, OfferAnswer, CloseAnswer, Offered, ClosedOn}
use Rattle.transcript.specs.Calls.{status_of}

-- a call with its buffers and its answer: an offer has its sector, its output before, and its
-- output after
pub data Event : Type 0 where
  start : Event
  offer : (sector out : List ℕ) → OfferAnswer → (after : List ℕ) → Event
  close : CloseAnswer → Event
  status : Status → Event

-- the call takes a transcript from one snapshot to the next, by the definitions of the calls
abbrev pub Step : Meaning → Meaning → Snapshot → Event → Snapshot → Type 0
Step S T s start t = t ≡ fresh
Step S T s (offer sector out r after) t = Offered S T s sector out r after t
Step S T s (close r) t = ClosedOn s.state s.held s r t
Step S T s (status r) t = (r ≡ status_of s) × (t ≡ s)

-- making a transcript starts it
pub data Use (S T : Meaning) : List Event → Snapshot → Type 0 where
  made : Use S T (start ∷ []) fresh
  call : {past : List Event} {s t : Snapshot} {e : Event} → Use S T past s → Step S T s e t
      → Use S T (e ∷ past) t

abbrev nothing : Done
nothing = record { taken = 0; written = 0 }

-- what an answer tells that the offer did
abbrev pub did : OfferAnswer → Done
did (Ok d) = d
did (Err SectorTooLong) = nothing
did (Err OutputTooLong) = nothing
did (Err SourceTooLong) = nothing
did (Err (Standing f)) = nothing
did (Err AlreadyClosed) = nothing
did (Err (Faulted f)) = f.done
did (Err (Full d)) = d

-- how many bytes it took and wrote
abbrev pub took : OfferAnswer → ℕ
took r = (did r).taken

abbrev pub wrote : OfferAnswer → ℕ
wrote r = (did r).written

-- the output is as it was behind the bytes that are told as written; the sector is lent to be read
-- alone, so nothing writes it
abbrev pub OutputStays : Event → Type 0
OutputStays start = Unit {0}
OutputStays (offer sector out r after) = drop (wrote r) after ≡ drop (wrote r) out
OutputStays (close r) = Unit {0}
OutputStays (status r) = Unit {0}

-- the bytes taken and written since the last start
abbrev pub taken_in : List Event → List ℕ
taken_in [] = []
taken_in (start ∷ past) = []
taken_in (offer sector out r after ∷ past) = taken_in past ++ take (took r) sector
taken_in (close r ∷ past) = taken_in past
taken_in (status r ∷ past) = taken_in past

abbrev pub written_in : List Event → List ℕ
written_in [] = []
written_in (start ∷ past) = []
written_in (offer sector out r after ∷ past) = written_in past ++ take (wrote r) after
written_in (close r ∷ past) = written_in past
written_in (status r ∷ past) = written_in past
