-- The number that each refusal of a call is told by, and the values that come with it.
use Rattle.transcript.specs.declared.answers.Told.{Told}
use Rattle.transcript.specs.Told.{alone, told}
use Rattle.c_interface.specs.declared.refusal.CallRefusal.{CallRefusal}
use Rattle.c_interface.specs.declared.refusal.CallRefusal.TheVariants.{NoMemory, UnknownForm}
use Rattle.c_interface.specs.declared.refusal.CallRefusal.TheVariants.{NoTranscript, Refused}

abbrev pub call_told : CallRefusal → Told
call_told NoMemory = alone 0
call_told UnknownForm = alone 101
call_told NoTranscript = alone 102
call_told (Refused q) = told q
