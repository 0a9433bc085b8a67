-- When a text is too long for a transcript, and how it is said.
use Rattle.std.specs.Prelude.{ℕ, ◌<◌, ◌≤◌, List, ◌++◌, length, Ok, Err, codes}
use Rattle.std.specs.Prelude.{decimal, Result}
use Rattle.transcript.specs.Told.{fault_number}
use Rattle.transcript.specs.declared.TheConstants.{LONGEST_SOURCE}
use Rattle.transcript.specs.declared.transcription.Failure.{Failure}
use Rattle.transcript.specs.declared.transcription.Failure.TheVariants.{NoMemory, TooLong, Faulted}

-- it is refused as too long exactly when it is
abbrev pub IsTooLong : {X : Type 0} → List ℕ → Result X Failure → Type 0
IsTooLong bytes (Ok p) = length bytes ≤ LONGEST_SOURCE
IsTooLong bytes (Err NoMemory) = length bytes ≤ LONGEST_SOURCE
IsTooLong bytes (Err TooLong) = LONGEST_SOURCE < length bytes
IsTooLong bytes (Err (Faulted f)) = length bytes ≤ LONGEST_SOURCE

-- the same where memory may be wanting before that is looked at
abbrev pub IsTooLongOrWanting : {X : Type 0} → List ℕ → Result X Failure → Type 0
IsTooLongOrWanting bytes (Ok p) = length bytes ≤ LONGEST_SOURCE
IsTooLongOrWanting bytes (Err NoMemory) = Unit {0}
IsTooLongOrWanting bytes (Err TooLong) = LONGEST_SOURCE < length bytes
IsTooLongOrWanting bytes (Err (Faulted f)) = length bytes ≤ LONGEST_SOURCE

abbrev pub message : Failure → List ℕ
message NoMemory = codes "out of memory"
message TooLong = codes "the text is too long"
message (Faulted f) =
    codes "refused "
    ++ (decimal (fault_number f.fault) ++ (codes " at offset " ++ decimal f.offset))
