-- What the transcription of a text is.
use Rattle.std.specs.Prelude.{◌≡◌, ℕ, ◌<◌, ◌≤◌, List, [], length, take, drop}
use Rattle.std.specs.Prelude.{Some, None, Ok, Err, Option}
use Rattle.charset.specs.declared.Reading.TheVariants.{Open}
use Rattle.charset.specs.Meaning.{Meaning}
use Rattle.charset.specs.Answers.{Reads}
use Rattle.charset.specs.Decoding.{Spells}
use Rattle.conversion.specs.declared.Fault.{Fault}
use Rattle.conversion.specs.declared.Fault.TheVariants.{Unread, Unwritten, Unfinished}
use Rattle.conversion.specs.Stops.{IsUnwritable}

-- what stands behind the characters that were written: nothing, or what the fault says
abbrev pub Ends : Meaning → Meaning → List ℕ → Option Fault → Type 0
Ends S T rest None = rest ≡ []
Ends S T rest (Some (Unread q)) = Reads S rest (Err q)
Ends S T rest (Some (Unwritten c q)) = IsUnwritable S T rest c q
Ends S T rest (Some Unfinished) = Reads S rest (Ok Open) × (0 < length rest)

-- the bytes up to the offset are characters in source codings, and the text is the same characters
-- in target codings
pub record Transcribed (S T : Meaning) (bytes text : List ℕ) (count offset : ℕ)
    (stop : Option Fault) : Type 0 where
  pub chars : List ℕ
  pub counted : count ≡ length chars
  pub inside : offset ≤ length bytes
  pub from : Spells S chars (take offset bytes)
  pub into : Spells T chars text
  pub ends : Ends S T (drop offset bytes) stop

-- the bytes are transcribed so, and in no other way
pub record TheTranscription (S T : Meaning) (bytes text : List ℕ) (count offset : ℕ)
    (stop : Option Fault) : Type 0 where
  pub transcribed : Transcribed S T bytes text count offset stop
  pub only : (t : List ℕ) (n o : ℕ) (s : Option Fault) → Transcribed S T bytes t n o s
      → (t ≡ text) × (n ≡ count) × (o ≡ offset) × (s ≡ stop)
