-- A set of single bytes, by the six columns of its upper half.
use Rattle.std.specs.Prelude.{ℕ, Bool, true, false, List, [], ◌∷◌, None, Option}
use Rattle.std.specs.Option.{option_map}
use Rattle.charset.specs.declared.SetRefusal.{SetRefusal}
use Rattle.charset.specs.Meaning.{Codings, Meaning, meaning}
use Rattle.sets.specs.declared.cause.Cause.TheVariants.{NotInUse}
use Rattle.sets.specs.Causes.{refusal, no_coding_cause}
use Rattle.sets.specs.Columns.{character_at, byte_of}

abbrev pub single_byte_character : List (List ℕ) → List ℕ → Option ℕ
single_byte_character columns [] = None
single_byte_character columns (b ∷ []) = character_at columns b
single_byte_character columns (a ∷ b ∷ s) = None

abbrev pub single_byte_codings : List (List ℕ) → Codings
single_byte_codings columns =
    record {
      character = single_byte_character columns;
      string =
          λ c. option_map (λ b. b ∷ []) (byte_of columns c);
    }

-- the empty string alone
abbrev pub single_byte_openings : List ℕ → Bool
single_byte_openings [] = true
single_byte_openings (b ∷ s) = false

abbrev pub single_byte_causes : List ℕ → SetRefusal
single_byte_causes s = refusal NotInUse

abbrev pub single_byte : List (List ℕ) → Meaning
single_byte columns =
    meaning (single_byte_codings columns) single_byte_openings single_byte_causes no_coding_cause
