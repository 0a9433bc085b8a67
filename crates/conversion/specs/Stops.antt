-- Characters that lead from one set into another, and what ends them.
use Rattle.std.specs.Prelude.{◌≡◌, ℕ, ◌+◌, ◌<◌, ◌≤◌, List, ◌++◌, length}
use Rattle.std.specs.Prelude.{Some, Ok, Err, Result}
use Rattle.charset.specs.declared.Reading.TheVariants.{Found, Open}
use Rattle.charset.specs.Meaning.{Meaning}
use Rattle.charset.specs.declared.SetRefusal.{SetRefusal}
use Rattle.charset.specs.Answers.{Reads, Writes}
use Rattle.charset.specs.Decoding.{Spells}
use Rattle.conversion.specs.declared.Fault.{Fault}
use Rattle.conversion.specs.declared.Fault.TheVariants.{Unread, Unwritten, Unfinished}
use Rattle.conversion.specs.declared.Pause.{Pause}
use Rattle.conversion.specs.declared.Pause.TheVariants as pause

-- why a conversion ends
abbrev pub End : Type 0
End = Result Pause Fault

-- the input begins with characters in source codings that fit an output of room bytes: they lead to
-- the rest
pub record Leads (S T : Meaning) (input : List ℕ) (room : ℕ)
    (chars source target rest : List ℕ) : Type 0 where
  pub from : Spells S chars source
  pub into : Spells T chars target
  pub begins : input ≡ source ++ rest
  pub fits : length target ≤ room

-- the character c stands in front, and the target set cannot write it, with that cause
abbrev pub IsUnwritable : Meaning → Meaning → List ℕ → ℕ → SetRefusal → Type 0
IsUnwritable S T rest c q = (n : ℕ) × Reads S rest (Ok (Found c n)) × Writes T c (Err q)

-- what comes next is an end: with used bytes of the output written,
-- the rest is an opening; or the target coding of its first character does not fit; or that
-- character has none; or nothing can be read
abbrev pub Stops : Meaning → Meaning → List ℕ → ℕ → ℕ → End → Type 0
Stops S T rest used room (Ok pause.Open) = Reads S rest (Ok Open)
Stops S T rest used room (Ok pause.Full) =
    (c n : ℕ) × (v : List ℕ) × Reads S rest (Ok (Found c n))
    × (T.codings.string c ≡ Some v)
    × (room < used + length v)
Stops S T rest used room (Err (Unwritten c q)) = IsUnwritable S T rest c q
Stops S T rest used room (Err (Unread q)) = Reads S rest (Err q)
Stops S T rest used room (Err Unfinished) = ⊥

-- characters that fit lead to that end
pub record Reaches (S T : Meaning) (input : List ℕ) (room : ℕ) (end : End)
    (chars source target : List ℕ) : Type 0 where
  pub rest : List ℕ
  pub leads : Leads S T input room chars source target rest
  pub stops : Stops S T rest (length target) room end
