-- The number that each refusal is told by, and the values that come with it.
use Rattle.std.specs.Prelude.{ℕ}
use Rattle.conversion.specs.declared.Fault.{Fault}
use Rattle.conversion.specs.declared.Fault.TheVariants.{Unread, Unwritten, Unfinished}
use Rattle.transcript.specs.declared.answers.Done.{Done}
use Rattle.transcript.specs.declared.answers.FaultAt.{FaultAt}
use Rattle.transcript.specs.declared.answers.Refusal.{Refusal}
use Rattle.transcript.specs.declared.answers.Refusal.TheVariants.{SectorTooLong, OutputTooLong}
use Rattle.transcript.specs.declared.answers.Refusal.TheVariants.{SourceTooLong}
use Rattle.transcript.specs.declared.answers.Refusal.TheVariants.{Standing, AlreadyClosed, Faulted}
use Rattle.transcript.specs.declared.answers.Refusal.TheVariants.{Full}
use Rattle.transcript.specs.declared.answers.Told.{Told}

-- a number alone
abbrev pub alone : ℕ → Told
alone n =
    record {
      number = n;
      standing = 0;
      offset = 0;
      cause = 0;
      depth = 0;
      character = 0;
      taken = 0;
      written = 0;
    }

-- and what an offer took and wrote
abbrev pub with_done : Told → Done → Told
with_done t d = record t { taken = d.taken; written = d.written }

-- 6, 7 and 9: what comes with a fault at that offset
abbrev pub with_fault : Told → (offset : ℕ) → Done → Fault → Told
with_fault t o d (Unread q) =
    with_done (record t { offset = o; cause = q.cause; depth = q.depth }) d
with_fault t o d (Unwritten c q) =
    with_done (record t { offset = o; character = c; cause = q.cause; depth = q.depth }) d
with_fault t o d Unfinished = record t { offset = o }

abbrev pub fault_number : Fault → ℕ
fault_number (Unread q) = 6
fault_number (Unwritten c q) = 7
fault_number Unfinished = 9

-- a fault that is met
abbrev pub told_fault : FaultAt → Told
told_fault f = with_fault (alone (fault_number f.fault)) f.offset f.done f.fault

-- a fault that stood already
abbrev pub told_standing : FaultAt → Told
told_standing f =
    with_fault (record (alone 4) { standing = fault_number f.fault }) f.offset f.done f.fault

abbrev pub told : Refusal → Told
told SectorTooLong = alone 1
told OutputTooLong = alone 2
told SourceTooLong = alone 3
told (Standing f) = told_standing f
told AlreadyClosed = alone 5
told (Faulted f) = told_fault f
told (Full d) = with_done (alone 8) d
