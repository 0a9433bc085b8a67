-- Bytes that stand alone in two sets.
use Rattle.std.specs.Prelude.{◌≡◌, ℕ, ◌<◌, List, [], ◌∷◌, length, Some, None}
use Rattle.std.specs.Prelude.{Option, slice_index_or}
use Rattle.charset.specs.Meaning.{Meaning}
use Rattle.conversion.specs.Becomes.{becomes}

-- the one byte of a coding, if it has one
abbrev pub only_byte : Option (List ℕ) → Option ℕ
only_byte None = None
only_byte (Some []) = None
only_byte (Some (t ∷ [])) = Some t
only_byte (Some (t ∷ u ∷ s)) = None

-- the byte that the byte b alone becomes, if it becomes one byte
abbrev pub plain_byte : Meaning → Meaning → ℕ → Option ℕ
plain_byte S T b = only_byte (becomes S T (b ∷ []))

-- what is known of each byte is right
abbrev pub Known : Meaning → Meaning → List (Option ℕ) → Type 0
Known S T known =
    (length known ≡ 256) × ((b t : ℕ) → b < 256 → slice_index_or known b None ≡ Some t
    → plain_byte S T b ≡ Some t)
