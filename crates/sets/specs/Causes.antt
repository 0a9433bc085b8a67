-- The refusal that each cause of these sets stands for.
use Rattle.std.specs.Prelude.{ℕ}
use Rattle.charset.specs.declared.SetRefusal.{SetRefusal}
use Rattle.sets.specs.declared.cause.Cause.{Cause}
use Rattle.sets.specs.declared.cause.Cause.TheVariants.{NotInUse, NoPair, Malformed, NoCoding}

abbrev pub refusal : Cause → SetRefusal
refusal NotInUse = record { cause = 31; depth = 0 }
refusal NoPair = record { cause = 32; depth = 0 }
refusal Malformed = record { cause = 33; depth = 0 }
refusal NoCoding = record { cause = 38; depth = 0 }

-- each of these sets has one cause for which a character cannot be written
abbrev pub no_coding_cause : ℕ → SetRefusal
no_coding_cause c = refusal NoCoding
