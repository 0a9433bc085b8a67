-- The progress of a transcript as a snapshot, and how it moves on.
use Rattle.std.specs.Prelude.{◌≡◌, ℕ, zero, suc, ◌+◌, ◌*◌, ◌≤◌, List, []}
use Rattle.std.specs.Prelude.{◌++◌, length, drop, Some, None, Option, Ok, Err, Result}
use Rattle.transcript.specs.declared.TheConstants.{LONGEST_SOURCE}
use Rattle.conversion.specs.declared.Pause.TheVariants as pause
use Rattle.conversion.specs.declared.Run.{Run}
use Rattle.conversion.specs.Stops.{End}
use Rattle.transcript.specs.declared.answers.Refusal.{Refusal}
use Rattle.transcript.specs.declared.answers.Status.{Status}
use Rattle.transcript.specs.declared.progress.Progress.{Progress}
use Rattle.transcript.specs.Calls.{Snapshot, OfferAnswer, limits, takes, holds, answers}
use Rattle.transcript.specs.Calls.{state_after, offset_of}

abbrev pub snapshot : Progress → Snapshot
snapshot k =
    record {
      state = k.state;
      taken = k.taken;
      characters = k.characters;
      written =
          k.written;
      held = k.held;
    }

-- the counts of every transcript keep these bounds: a character has one to four bytes, in the
-- source and in the target
pub record Counts (s : Snapshot) : Type 0 where
  pub read_least : s.characters + length s.held ≤ s.taken
  pub read_most : s.taken ≤ 4 * s.characters + length s.held
  pub written_least : s.characters ≤ s.written
  pub written_most : s.written ≤ 4 * s.characters
  pub limit : s.taken ≤ LONGEST_SOURCE

-- the snapshot of which a status was told while these bytes were held
abbrev pub told_with : Status → List ℕ → Snapshot
told_with u held =
    record {
      state = u.state;
      taken = u.taken;
      characters = u.characters;
      written =
          u.written;
      held = held;
    }

abbrev pub Restored : Status → List ℕ → Option Progress → Type 0
Restored u held (Some p) = (u.held ≡ length held) × (snapshot p ≡ told_with u held)
Restored u held None = u.held ≡ length held → Counts (told_with u held) → ⊥

-- the held bytes stay if no character was written
abbrev pub kept_after : ℕ → List ℕ → List ℕ
kept_after zero held = held
kept_after (suc n) held = []

-- the first size limit that an offer breaks, if it breaks any
abbrev pub Limits : ℕ → List ℕ → List ℕ → Result (Unit {0}) Refusal → Type 0
Limits taken sector out (Ok u) = limits taken sector out ≡ None
Limits taken sector out (Err q) = limits taken sector out ≡ Some q

-- a run to that end can have come of the held bytes and the sector
pub record Possible (s : Snapshot) (sector : List ℕ) (run : Run) (end : End) : Type 0 where
  pub within : run.read ≤ length s.held + length sector
  pub one_byte_each : run.characters ≤ run.read
  pub four_bytes_each : run.read ≤ 4 * run.characters
  pub one_written_each : run.characters ≤ run.written
  pub four_written_each : run.written ≤ 4 * run.characters
  pub opening : end ≡ Ok pause.Open → length (drop run.read (s.held ++ sector)) ≤ 3
  pub limit : s.taken + length sector ≤ LONGEST_SOURCE

-- the answer and the next snapshot, for characters of these lengths
pub record Settles (s : Snapshot) (sector : List ℕ) (run : Run) (end : End) (r : OfferAnswer)
    (t : Snapshot) : Type 0 where
  pub by_lists : (chars source target : List ℕ) → run.characters ≡ length chars
      → run.read ≡ length source → run.written ≡ length target
      → (r ≡ answers end (offset_of s source) (takes end s.held sector source)
      (length target))
      × (t ≡ record {
        state =
            state_after end (offset_of s source) (takes end s.held sector source)
            (length target);
        taken = s.taken + takes end s.held sector source;
        characters = s.characters + length chars;
        written = s.written + length target;
        held = holds end s.held chars (drop run.read (s.held ++ sector));
      })
