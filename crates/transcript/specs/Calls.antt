-- What each call answers and leaves.
use Rattle.std.specs.Prelude.{◌≡◌, ℕ, ◌+◌, ◌-◌, cond, List, [], ◌∷◌}
use Rattle.std.specs.Prelude.{◌++◌, length, drop, Some, None, Ok, Err, Option, Result, nat_lt}
use Rattle.charset.specs.Meaning.{Meaning}
use Rattle.transcript.specs.declared.TheConstants.{LONGEST_SECTOR, LONGEST_OUTPUT, LONGEST_SOURCE}
use Rattle.conversion.specs.declared.Fault.{Fault}
use Rattle.conversion.specs.declared.Fault.TheVariants.{Unfinished}
use Rattle.conversion.specs.declared.Pause.TheVariants as pause
use Rattle.conversion.specs.Stops.{End, Reaches}
use Rattle.transcript.specs.declared.answers.Done.{Done}
use Rattle.transcript.specs.declared.answers.FaultAt.{FaultAt}
use Rattle.transcript.specs.declared.answers.State.{State}
use Rattle.transcript.specs.declared.answers.State.TheVariants.{Open, Faulted, Closed}
use Rattle.transcript.specs.declared.answers.Status.{Status}
use Rattle.transcript.specs.declared.answers.Refusal.{Refusal}
use Rattle.transcript.specs.declared.answers.Refusal.TheVariants as refusal

-- a transcript without its sets: its state, what it has counted since the start, and the bytes it
-- holds
pub record Snapshot : Type 0 where
  pub state : State
  pub taken : ℕ
  pub characters : ℕ
  pub written : ℕ
  pub held : List ℕ

abbrev pub fresh : Snapshot
fresh = record { state = Open; taken = 0; characters = 0; written = 0; held = [] }

abbrev pub with_state : Snapshot → State → Snapshot
with_state s p =
    record {
      state = p;
      taken = s.taken;
      characters = s.characters;
      written = s.written;
      held =
          s.held;
    }

-- what an offer answers, and what a closing answers
abbrev pub OfferAnswer : Type 0
OfferAnswer = Result Done Refusal

abbrev pub CloseAnswer : Type 0
CloseAnswer = Result (Unit {0}) Refusal

-- ---- an offer

abbrev pub done : (taken written : ℕ) → Done
done n w = record { taken = n; written = w }

abbrev pub fault_at : Fault → (offset taken written : ℕ) → FaultAt
fault_at f o n w = record { fault = f; offset = o; done = done n w }

-- the size limits, in their order
abbrev pub limits : ℕ → List ℕ → List ℕ → Option Refusal
limits taken sector out =
    cond (nat_lt LONGEST_SECTOR (length sector)) (Some refusal.SectorTooLong)
    (cond (nat_lt LONGEST_OUTPUT (length out)) (Some refusal.OutputTooLong)
    (cond (nat_lt LONGEST_SOURCE (taken + length sector)) (Some refusal.SourceTooLong) None))

-- the refusals that change nothing, in their order
abbrev pub refused : State → ℕ → List ℕ → List ℕ → Option Refusal
refused Closed taken sector out = Some refusal.AlreadyClosed
refused (Faulted f) taken sector out = Some (refusal.Standing f)
refused Open taken sector out = limits taken sector out

-- the sector bytes that an offer takes: all, unless something stops it, and then those of written
-- characters
abbrev pub takes : End → (held sector source : List ℕ) → ℕ
takes (Ok pause.Open) held sector source = length sector
takes (Ok pause.Full) held sector source = length source - length held
takes (Err f) held sector source = length source - length held

-- the bytes held after it: what remains, or, where something stops it, those held before unless a
-- character was written
abbrev pub unless_any : (chars held : List ℕ) → List ℕ
unless_any [] held = held
unless_any (c ∷ cs) held = []

abbrev pub holds : End → (held chars rest : List ℕ) → List ℕ
holds (Ok pause.Open) held chars rest = rest
holds (Ok pause.Full) held chars rest = unless_any chars held
holds (Err f) held chars rest = unless_any chars held

abbrev pub answers : End → (offset taken written : ℕ) → OfferAnswer
answers (Ok pause.Open) o n w = Ok (done n w)
answers (Ok pause.Full) o n w = Err (refusal.Full (done n w))
answers (Err f) o n w = Err (refusal.Faulted (fault_at f o n w))

abbrev pub state_after : End → (offset taken written : ℕ) → State
state_after (Ok p) o n w = Open
state_after (Err f) o n w = Faulted (fault_at f o n w)

-- where the characters of an offer end in the source
abbrev pub offset_of : Snapshot → (source : List ℕ) → ℕ
offset_of s source = s.taken - length s.held + length source

-- an offer that no refusal kept from its work: characters that fit lead to an end, and are written
pub record Worked (S T : Meaning) (s : Snapshot) (sector out : List ℕ) (r : OfferAnswer)
    (after : List ℕ) (t : Snapshot) : Type 0 where
  pub chars : List ℕ
  pub source : List ℕ
  pub target : List ℕ
  pub end : End
  pub reaches : Reaches S T (s.held ++ sector) (length out) end chars source target
  pub answer : r
      ≡ answers end (offset_of s source) (takes end s.held sector source) (length target)
  pub left : after ≡ target ++ drop (length target) out
  pub next : t ≡ record {
    state = state_after end (offset_of s source) (takes end s.held sector source) (length target);
    taken = s.taken + takes end s.held sector source;
    characters = s.characters + length chars;
    written = s.written + length target;
    held = holds end s.held chars reaches.rest;
  }

abbrev pub OfferedIf : Option Refusal → Meaning → Meaning → Snapshot → List ℕ → List ℕ
    → OfferAnswer → List ℕ → Snapshot → Type 0
OfferedIf (Some q) S T s sector out r after t = (r ≡ Err q) × (after ≡ out) × (t ≡ s)
OfferedIf None S T s sector out r after t = Worked S T s sector out r after t

abbrev pub Offered : Meaning → Meaning → Snapshot → (sector out : List ℕ) → OfferAnswer
    → (after : List ℕ) → Snapshot → Type 0
Offered S T s sector out r after t =
    OfferedIf (refused s.state s.taken sector out) S T s sector out r after t

-- ---- a closing

abbrev pub unfinished : Snapshot → FaultAt
unfinished s = fault_at Unfinished (s.taken - length s.held) 0 0

abbrev pub ClosedOn : State → (held : List ℕ) → Snapshot → CloseAnswer → Snapshot
    → Type 0
ClosedOn Closed held s r t = (r ≡ Err refusal.AlreadyClosed) × (t ≡ s)
ClosedOn (Faulted f) held s r t = (r ≡ Err (refusal.Standing f)) × (t ≡ s)
ClosedOn Open [] s r t = (r ≡ Ok tt) × (t ≡ with_state s Closed)
ClosedOn Open (b ∷ bs) s r t =
    (r ≡ Err (refusal.Faulted (unfinished s))) × (t ≡ with_state s (Faulted (unfinished s)))

-- ---- a status call

abbrev pub status_of : Snapshot → Status
status_of s =
    record {
      taken = s.taken;
      characters = s.characters;
      written = s.written;
      held =
          length s.held;
      state = s.state;
    }
