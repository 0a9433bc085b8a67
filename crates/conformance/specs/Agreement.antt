-- What an answer says.
use Rattle.std.specs.Prelude.{◌≡◌, ℕ, Bool, true, false, ◌-◌, ◌/◌, List, length}
use Rattle.std.specs.Prelude.{drop, Ok, Err, Result}
use Rattle.std.specs.Int.{to_be_bytes, w32}
use Rattle.charset.specs.declared.SetRefusal.{SetRefusal}
use Rattle.charset.specs.declared.Reading.{Reading}
use Rattle.charset.specs.declared.Reading.TheVariants.{Found, Open}
use Rattle.charset.specs.Meaning.{Meaning}
use Rattle.charset.specs.Answers.{Reads, WriteAnswer, Writes, reading, writing}
use Rattle.conformance.specs.Numbers.{number_of}
use Rattle.conformance.specs.declared.vector.Question.{Question}
use Rattle.conformance.specs.declared.vector.Question.TheVariants as question
use Rattle.conformance.specs.declared.answer.Reply.{Reply}
use Rattle.conformance.specs.declared.answer.Reply.TheVariants as answer

abbrev pub told_reading : Result Reading SetRefusal → Reply
told_reading (Ok (Found c n)) = answer.Character c n
told_reading (Ok Open) = answer.Open
told_reading (Err q) = answer.Refused q.cause

abbrev pub told_coding : WriteAnswer → Reply
told_coding (Ok c) = answer.Bytes (number_of c) (length c)
told_coding (Err q) = answer.NoCoding

abbrev pub is_refusal : Reply → Bool
is_refusal (answer.Character c n) = false
is_refusal answer.Open = false
is_refusal (answer.Refused q) = true
is_refusal (answer.Bytes b n) = false
is_refusal answer.NoCoding = false

-- r tells what reading s answers
abbrev pub TellsReading : Meaning → List ℕ → Reply → Type 0
TellsReading m s r = (a : Result Reading SetRefusal) × Reads m s a × (r ≡ told_reading a)

-- r tells what writing n answers
abbrev pub TellsWriting : Meaning → ℕ → Reply → Type 0
TellsWriting m n r = (a : WriteAnswer) × Writes m n a × (r ≡ told_coding a)

-- the string of so many hexadecimal digits, or of eight, that a number stands for
abbrev pub string_of : (width number : ℕ) → List ℕ
string_of width n = drop (4 - width / 2) (to_be_bytes w32 n)

-- the answer to a question put to n
abbrev pub answer_to : Meaning → Question → ℕ → Reply
answer_to m (question.Read width) n = told_reading (reading m (string_of width n))
answer_to m question.Write n = told_coding (writing m n)

-- r tells what is answered to a question put to n
abbrev pub Tells : Meaning → Question → ℕ → Reply → Type 0
Tells m (question.Read width) n r = TellsReading m (string_of width n) r
Tells m question.Write n r = TellsWriting m n r
