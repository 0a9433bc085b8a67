-- The status that a program ends with.
use Rattle.std.specs.Prelude.{◌≡◌, ℕ, ◌⊎◌, Ok, Err, Result, codes, string_bytes}
use Rattle.std.specs.declared.process.ExitCode.{ExitCode}
use Rattle.std.specs.Process.{exit_status}
use Rattle.program.specs.declared.Ending.{Ending}
use Rattle.program.specs.declared.Ending.TheVariants.{Answered, Usage, Failed, NoMemory}

abbrev pub status_of : Ending → ℕ
status_of (Answered text) = 0
status_of (Usage text) = 2
status_of (Failed text) = 1
status_of NoMemory = 1

-- reading and writing fail, or want memory
abbrev pub IsFailure : Ending → Type 0
IsFailure (Answered text) = ⊥
IsFailure (Usage text) = ⊥
IsFailure (Failed text) = Unit {0}
IsFailure NoMemory = Unit {0}

-- what the arguments ask for or have wrong, or memory is wanting
abbrev pub IsAnswerOrUsage : Ending → Type 0
IsAnswerOrUsage (Answered text) = Unit {0}
IsAnswerOrUsage (Usage text) = Unit {0}
IsAnswerOrUsage (Failed text) = ⊥
IsAnswerOrUsage NoMemory = Unit {0}

-- the words cannot be read, or are no words
abbrev pub NoWords : Ending → Type 0
NoWords (Answered text) = ⊥
NoWords (Usage text) = string_bytes text ≡ codes "an argument is not UTF-8"
NoWords (Failed text) = Unit {0}
NoWords NoMemory = Unit {0}

-- the status of an outcome: an answer that cannot be written ends as a failure
abbrev pub EndsAs : Result (Unit {0}) Ending → ExitCode → Type 0
EndsAs (Ok u) code = exit_status code ≡ 0
EndsAs (Err (Answered text)) code = (exit_status code ≡ 0) ⊎ (exit_status code ≡ 1)
EndsAs (Err (Usage text)) code = exit_status code ≡ 2
EndsAs (Err (Failed text)) code = exit_status code ≡ 1
EndsAs (Err NoMemory) code = exit_status code ≡ 1
