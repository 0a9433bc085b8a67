-- A transcript as its two sets and how far it has come, and what a call makes of it.
use Rattle.std.specs.Prelude.{◌≡◌, List, ◌∷◌, ℕ, Some, None, Option, Result}
use Rattle.charset.specs.declared.CharacterSet.{Ghosts}
use Rattle.charset.specs.Meaning.{Meaning, IsOpening}
use Rattle.charset.specs.Sets.{set_of}
use Rattle.transcript.specs.declared.answers.Answer.{Answer}
use Rattle.transcript.specs.declared.answers.Refusal.{Refusal}
use Rattle.transcript.specs.declared.calls.Call.{Call}
use Rattle.transcript.specs.declared.calls.Transcript.{Transcript}
use Rattle.transcript.specs.Calls.{Snapshot, OfferAnswer, limits, OfferedIf}
use Rattle.transcript.specs.Called.{IsEvent, Returned}
use Rattle.transcript.specs.Snapshots.{snapshot}
use Rattle.transcript.specs.Uses.{Event, Step, Use, OutputStays}

module _ {S T : Type 0} {g : Ghosts S} {h : Ghosts T} where
  -- what its sets mean, and how far it has come
  abbrev pub source_set : Transcript S T g h → Meaning
  source_set t = set_of g t.converter.sets.source

  abbrev pub target_set : Transcript S T g h → Meaning
  target_set t = set_of h t.converter.sets.target

  abbrev pub come_to : Transcript S T g h → Snapshot
  come_to t = snapshot t.progress

  -- it has these sets
  pub record HasSets (from : S) (into : T) (t : Transcript S T g h) : Type 0 where
    pub source : t.converter.sets.source ≡ from
    pub target : t.converter.sets.target ≡ into

  -- it has these sets, and has come so far
  pub record Between (from : S) (into : T) (s : Snapshot) (t : Transcript S T g h)
      : Type 0 where
    pub has_sets : HasSets from into t
    pub has_come : come_to t ≡ s

  -- it goes on from there exactly when the held bytes are an opening of the source set
  abbrev pub Resumed : (from : S) (into : T) → Snapshot → Option (Transcript S T g h) → Type 0
  Resumed from into s (Some t) = IsOpening (set_of g from) s.held × Between from into s t
  Resumed from into s None = ¬ IsOpening (set_of g from) s.held

  abbrev pub SameSets : (old new : Transcript S T g h) → Type 0
  SameSets old new = HasSets old.converter.sets.source old.converter.sets.target new

  -- whatever use led to the transcript before, that use with this call behind it leads to the
  -- transcript after
  abbrev pub GoesOn : (old : Transcript S T g h) → Event → (new : Transcript S T g h) → Type 0
  GoesOn old e new =
      (past : List Event) → Use (source_set old) (target_set old) past (come_to old)
      → Use (source_set new) (target_set new) (e ∷ past) (come_to new)

  -- a call with its buffers and its answer takes the transcript from old to new, as one call more
  -- of every use; its sets stay, and so does the output behind what is told as written
  pub record Steps (old : Transcript S T g h) (e : Event) (new : Transcript S T g h)
      : Type 0 where
    pub same_sets : SameSets old new
    pub step : Step (source_set old) (target_set old) (come_to old) e (come_to new)
    pub goes_on : GoesOn old e new
    pub output_stays : OutputStays e

  -- the same of a call as one value, with the call as it is seen at the return
  pub record Calls (old : Transcript S T g h) (call : Call) (new : Transcript S T g h)
      (returned : Returned) (r : Result Answer Refusal) : Type 0 where
    pub event : Event
    pub is_event : IsEvent call returned r event
    pub steps : Steps old event new

  -- an offer to an open transcript
  pub record OffersWhenOpen (old : Transcript S T g h) (sector out : List ℕ) (r : OfferAnswer)
      (after : List ℕ) (new : Transcript S T g h) : Type 0 where
    pub same_sets : SameSets old new
    pub offered : OfferedIf (limits old.progress.taken sector out)
        (source_set old) (target_set old) (come_to old) sector out r after (come_to new)
