-- The law of every use of a transcript.
use Rattle.std.specs.Prelude.{◌≡◌, ℕ, ◌≤◌, ◌⊎◌, List, [], ◌∷◌, ◌++◌}
use Rattle.std.specs.Prelude.{length, take, None, Ok, Err, ◌≢◌, ◌↔◌}
use Rattle.charset.specs.Meaning.{Meaning}
use Rattle.charset.specs.Decoding.{Spells, Decodes}
use Rattle.transcript.specs.declared.TheConstants.{LONGEST_SOURCE}
use Rattle.conversion.specs.declared.Fault.TheVariants.{Unread, Unwritten, Unfinished}
use Rattle.conversion.specs.declared.Pause.TheVariants as pause
use Rattle.conversion.specs.Stops.{End, Reaches}
use Rattle.transcript.specs.declared.answers.FaultAt.{FaultAt}
use Rattle.transcript.specs.declared.answers.Refusal.TheVariants as refusal
use Rattle.transcript.specs.declared.answers.State.{State}
use Rattle.transcript.specs.declared.answers.State.TheVariants.{Open, Faulted}
use Rattle.transcript.specs.declared.answers.Status.{Status}
use Rattle.transcript.specs.declared.answers.Told.{Told}
use Rattle.transcript.specs.Told.{alone, with_done, told}
use Rattle.transcript.specs.Calls.{Snapshot, OfferAnswer, CloseAnswer, offset_of, limits}
use Rattle.transcript.specs.Uses.{Event, start, offer, close, status, Step, Use, took, wrote}
use Rattle.transcript.specs.Uses.{OutputStays, taken_in, written_in}

-- ---- every use

-- the bytes taken are one list of characters in source codings, then the held opening, and no other
-- list and opening; the bytes written are that list in target codings; and the counts are theirs
pub record StandsOn (S T : Meaning) (bytes out : List ℕ) (s : Snapshot) : Type 0 where
  pub chars : List ℕ
  pub decodes : Decodes S bytes chars s.held
  pub only : (cs h : List ℕ) → Decodes S bytes cs h → (cs ≡ chars) × (h ≡ s.held)
  pub writes : Spells T chars out
  pub counts_taken : s.taken ≡ length bytes
  pub counts_written : s.written ≡ length out
  pub counts_characters : s.characters ≡ length chars

-- the same of a use: of the bytes taken and written since its last start
abbrev pub Stands : Meaning → Meaning → List Event → Snapshot → Type 0
Stands S T past s = StandsOn S T (taken_in past) (written_in past) s

-- a status call on a transcript that a use led to, and a list of characters and an opening that
-- make the bytes taken
pub record StatusAsked (S T : Meaning) (past : List Event) (answer : Status)
    (chars held : List ℕ) : Type 0 where
  pub before : Snapshot
  pub after : Snapshot
  pub used : Use S T past before
  pub step : Step S T before (status answer) after
  pub decodes : Decodes S (taken_in past) chars held

-- how many bytes are taken, written and held, and how many characters these are
pub record TellsCounts (past : List Event) (answer : Status) (chars held : List ℕ) : Type 0 where
  pub taken_is : answer.taken ≡ length (taken_in past)
  pub written_is : answer.written ≡ length (written_in past)
  pub held_is : answer.held ≡ length held
  pub characters_is : answer.characters ≡ length chars

-- what a status call tells
abbrev pub StatusTells : Meaning → Meaning → Type 0
StatusTells S T =
    (past : List Event) (answer : Status) (chars held : List ℕ)
    → StatusAsked S T past answer chars held → TellsCounts past answer chars held

-- ---- every offer

-- an answer by its number and values; success has the number 0
abbrev pub told_of : OfferAnswer → Told
told_of (Ok d) = with_done (alone 0) d
told_of (Err q) = told q

-- characters that fit the output lead to that end
abbrev pub LeadsTo : Meaning → Meaning → List ℕ → ℕ → End → Type 0
LeadsTo S T input room k =
    (chars source target : List ℕ) × Reaches S T input room k chars source target

-- what tells of an end: the number, and the values that come with it
abbrev pub TellsOf : End → (offset : ℕ) → Told → Type 0
TellsOf (Ok pause.Open) offset values = values.number ≡ 0
TellsOf (Ok pause.Full) offset values = values.number ≡ 8
TellsOf (Err (Unread q)) offset values =
    (values.number ≡ 6) × (values.cause ≡ q.cause) × (values.depth ≡ q.depth)
    × (values.offset ≡ offset)
TellsOf (Err (Unwritten c q)) offset values =
    (values.number ≡ 7) × (values.character ≡ c) × (values.cause ≡ q.cause)
    × (values.depth ≡ q.depth) × (values.offset ≡ offset)
TellsOf (Err Unfinished) offset values = ⊥

-- the state at an end: still open, or faulted by the fault that is answered
abbrev pub LeavesState : End → OfferAnswer → State → Type 0
LeavesState (Ok p) answer state = state ≡ Open
LeavesState (Err fault) answer state =
    (f : FaultAt) × (f.fault ≡ fault) × (answer ≡ Err (refusal.Faulted f))
    × (state ≡ Faulted f)

module _ (S T : Meaning) (before : Snapshot) (sector out : List ℕ) (answer : OfferAnswer)
    (out_after : List ℕ) (after : Snapshot) where
  -- an offer to an open transcript that a use led to, within the size limits
  pub record OfferMade : Type 0 where
    pub past : List Event
    pub used : Use S T past before
    pub is_open : before.state ≡ Open
    pub within_limits : limits before.taken sector out ≡ None
    pub step : Step S T before (offer sector out answer out_after) after

  -- it takes and writes just these characters: the held bytes and the sector bytes taken are the
  -- characters in source codings, or there is none and nothing is taken; the bytes written are the
  -- characters in target codings
  pub record TakesAndWritesJust (chars source target : List ℕ) : Type 0 where
    pub takes : (before.held ++ take (took answer) sector ≡ source)
        ⊎ ((chars ≡ []) × (took answer ≡ 0))
    pub taken_of_sector : took answer ≤ length sector
    pub writes : take (wrote answer) out_after ≡ target
    pub written_is : wrote answer ≡ length target

  -- where an opening or nothing is left, it succeeds: it takes the whole sector, writes the
  -- characters, and holds what is left
  pub record Succeeds (source target : List ℕ) : Type 0 where
    pub tells : TellsOf (Ok pause.Open) (offset_of before source) (told_of answer)
    pub takes_all : took answer ≡ length sector
    pub writes : take (wrote answer) out_after ≡ target
    pub written_is : wrote answer ≡ length target
    pub state : LeavesState (Ok pause.Open) answer after.state
    pub holds_the_rest : before.held ++ sector ≡ source ++ after.held

  -- at any other end it tells that end, takes and writes just the characters before, and holds
  -- nothing if it wrote a character, and what it held before otherwise
  pub record StopsAt (end : End) (chars source target : List ℕ) : Type 0 where
    pub tells : TellsOf end (offset_of before source) (told_of answer)
    pub takes_and_writes_just_these : TakesAndWritesJust chars source target
    pub state : LeavesState end answer after.state
    pub holds_as_before : chars ≡ [] → after.held ≡ before.held
    pub holds_nothing : chars ≢ [] → after.held ≡ []

  -- what it comes to at the end that the characters lead to
  abbrev pub ComesTo : End → (chars source target : List ℕ) → Type 0
  ComesTo (Ok pause.Open) chars source target = Succeeds source target
  ComesTo (Ok pause.Full) chars source target = StopsAt (Ok pause.Full) chars source target
  ComesTo (Err f) chars source target = StopsAt (Err f) chars source target

  -- it tells none of 6, 7 and 8
  pub record TellsNoStop : Type 0 where
    pub not_six : (told_of answer).number ≢ 6
    pub not_seven : (told_of answer).number ≢ 7
    pub not_eight : (told_of answer).number ≢ 8

  -- it tells 7, 6 or 8 exactly when characters that fit lead to a character without a target
  -- coding, to bytes with no coding in front that are no opening, or to a character whose target
  -- coding does not fit, 7 and 6 with the cause and depth that the set gives for it; otherwise it
  -- succeeds and takes the whole sector
  pub record TellsExactly : Type 0 where
    pub seven : (told_of answer).number ≡ 7 → LeadsTo S T (before.held ++ sector) (length out)
        (Err (Unwritten (told_of answer).character
        (record { cause = (told_of answer).cause; depth = (told_of answer).depth })))
    pub six : (told_of answer).number ≡ 6 → LeadsTo S T (before.held ++ sector) (length out)
        (Err (Unread (record { cause = (told_of answer).cause; depth = (told_of answer).depth })))
    pub eight : (told_of answer).number ≡ 8 → LeadsTo S T (before.held ++ sector) (length out)
        (Ok pause.Full)
    pub comes_to : (end : End) (chars source target : List ℕ)
        → Reaches S T (before.held ++ sector) (length out) end chars source target
        → ComesTo end chars source target
    pub otherwise : TellsNoStop
        → ((told_of answer).number ≡ 0) × (took answer ≡ length sector)

-- what an offer to an open transcript tells, takes, writes and leaves
abbrev pub OffersExactly : Meaning → Meaning → Type 0
OffersExactly S T =
    (before : Snapshot) (sector out : List ℕ) (answer : OfferAnswer) (out_after : List ℕ)
    (after : Snapshot) → OfferMade S T before sector out answer out_after after
    → TellsExactly S T before sector out answer out_after after

-- any call, refused or not, leaves the output as it was behind the bytes that it tells written
abbrev pub LeavesOutput : Meaning → Meaning → Type 0
LeavesOutput S T =
    (before after : Snapshot) (e : Event) → Step S T before e after → OutputStays e

-- an offer to any transcript has one outcome: an answer, an output and a next snapshot, and no
-- other
pub record OneOutcome (S T : Meaning) (before : Snapshot) (sector out : List ℕ) : Type 0 where
  pub answer : OfferAnswer
  pub out_after : List ℕ
  pub after : Snapshot
  pub step : Step S T before (offer sector out answer out_after) after
  pub only : (r : OfferAnswer) (o : List ℕ) (t : Snapshot)
      → Step S T before (offer sector out r o) t
      → (r ≡ answer) × (o ≡ out_after) × (t ≡ after)

-- ---- there and back

-- a closing of an open transcript that a use led to
pub record CloseMade (S T : Meaning) (before : Snapshot) (answer : CloseAnswer) : Type 0 where
  pub past : List Event
  pub after : Snapshot
  pub used : Use S T past before
  pub is_open : before.state ≡ Open
  pub step : Step S T before (close answer) after

-- it is accepted exactly when nothing is held
abbrev pub ClosesExactly : Meaning → Meaning → Type 0
ClosesExactly S T =
    (before : Snapshot) (answer : CloseAnswer) → CloseMade S T before answer
    → (answer ≡ Ok tt) ↔ (before.held ≡ [])

-- bytes are offered to a newly started transcript: each sector is a beginning of those that it has
-- not taken yet
abbrev pub Feeds : List ℕ → List Event → Type 0
Feeds w [] = ⊥
Feeds w (start ∷ past) = past ≡ []
Feeds w (offer sector out r after ∷ past) =
    ((more : List ℕ) × (w ≡ taken_in past ++ (sector ++ more))) × Feeds w past
Feeds w (close r ∷ past) = ⊥
Feeds w (status r ∷ past) = Feeds w past

-- an offer is taken, stops with 8, or is too long
abbrev pub Faultless : Event → Type 0
Faultless start = Unit {0}
Faultless (offer sector out r after) =
    ((told_of r).number ≡ 0) ⊎ (((told_of r).number ≡ 8)
    ⊎ (((told_of r).number ≡ 1) ⊎ ((told_of r).number ≡ 2)))
Faultless (close r) = Unit {0}
Faultless (status r) = Unit {0}

abbrev pub AllFaultless : List Event → Type 0
AllFaultless [] = Unit {0}
AllFaultless (e ∷ past) = Faultless e × AllFaultless past

-- a use that ended well: closing its open transcript is accepted, and the bytes written are not too
-- many for a source
pub record EndsWell (S T : Meaning) (past : List Event) : Type 0 where
  pub last : Snapshot
  pub closed : Snapshot
  pub used : Use S T past last
  pub is_open : last.state ≡ Open
  pub closes : Step S T last (close (Ok tt)) closed
  pub not_too_long : length (written_in past) ≤ LONGEST_SOURCE

-- the bytes written are offered to a second transcript with the sets exchanged
pub record OfferedBack (S T : Meaning) (past again : List Event) (second : Snapshot)
    : Type 0 where
  pub used : Use T S again second
  pub fed : Feeds (written_in past) again

-- closing the second is accepted, and it has written the bytes that the first took
pub record ComesBack (S T : Meaning) (past again : List Event) (second : Snapshot)
    : Type 0 where
  pub closes : (answer : CloseAnswer) (closed : Snapshot)
      → Step T S second (close answer) closed → answer ≡ Ok tt
  pub writes_back : written_in again ≡ taken_in past

-- the second comes to no fault, and once it has taken all, the bytes come back
pub record ReadsBack (S T : Meaning) (past again : List Event) (second : Snapshot)
    : Type 0 where
  pub no_fault : AllFaultless again
  pub once_all_taken : taken_in again ≡ written_in past → ComesBack S T past again second

-- so there and back: the bytes written of every use that ended well
abbrev pub GoesBack : Meaning → Meaning → Type 0
GoesBack S T =
    (past again : List Event) (second : Snapshot) → EndsWell S T past
    → OfferedBack S T past again second → ReadsBack S T past again second

-- the law of transcription between two sets
pub record TranscriptionLaw (S T : Meaning) : Type 0 where
  pub every_use : (past : List Event) (s : Snapshot) → Use S T past s → Stands S T past s
  pub status_tells : StatusTells S T
  pub every_offer : OffersExactly S T
  pub output_stays : LeavesOutput S T
  pub one_outcome : (before : Snapshot) (sector out : List ℕ) → OneOutcome S T before sector out
  pub closes_exactly : ClosesExactly S T
  pub there_and_back : GoesBack S T
