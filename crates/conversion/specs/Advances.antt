-- One character from one set into another.
use Rattle.std.specs.Prelude.{◌≡◌, ℕ, ◌≤◌, List, ◌++◌, length, drop, Some, Ok}
use Rattle.std.specs.Prelude.{Err, Result}
use Rattle.charset.specs.declared.Reading.TheVariants.{Found}
use Rattle.charset.specs.Meaning.{Meaning}
use Rattle.charset.specs.Answers.{Reads}
use Rattle.conversion.specs.declared.Fault.{Fault}
use Rattle.conversion.specs.declared.Advance.{Advance}
use Rattle.conversion.specs.declared.Advance.TheVariants.{Written, Paused}
use Rattle.conversion.specs.Stops.{Stops}

-- the character in front of the input was written in front of the output, or an end stands there
-- and nothing was written
abbrev pub Advances : Meaning → Meaning → List ℕ → List ℕ → List ℕ
    → Result Advance Fault → Type 0
Advances S T input out out' (Ok (Written n w)) =
    (c : ℕ) × (v : List ℕ) × Reads S input (Ok (Found c n)) × (T.codings.string c ≡ Some v)
    × (w ≡ length v) × (length v ≤ length out) × (out' ≡ v ++ drop (length v) out)
Advances S T input out out' (Ok (Paused p)) =
    Stops S T input 0 (length out) (Ok p) × (out' ≡ out)
Advances S T input out out' (Err f) = Stops S T input 0 (length out) (Err f) × (out' ≡ out)
