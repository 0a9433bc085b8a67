-- The next character's coding in another set.
use Rattle.std.specs.Prelude.{◌≡◌, ℕ, List, Some, None, Ok, Err, Option, Result}
use Rattle.charset.specs.declared.Reading.TheVariants.{Found, Open}
use Rattle.charset.specs.Meaning.{Meaning}
use Rattle.charset.specs.Answers.{Reads}
use Rattle.conversion.specs.declared.Fault.{Fault}
use Rattle.conversion.specs.Stops.{Stops}

-- a character in front and its target coding, or an opening alone, or the fault that stands there
abbrev pub ComesNext : Meaning → Meaning → List ℕ → Result (Option (List ℕ × ℕ)) Fault
    → Type 0
ComesNext S T input (Ok (Some p)) =
    (c : ℕ) × Reads S input (Ok (Found c p.1)) × (T.codings.string c ≡ Some p.0)
ComesNext S T input (Ok None) = Reads S input (Ok Open)
ComesNext S T input (Err f) = Stops S T input 0 0 (Err f)
