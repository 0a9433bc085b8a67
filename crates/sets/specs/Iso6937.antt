-- ISO/IEC 6937:1994 in its 8-bit form, by Table 4.
use Rattle.std.specs.Prelude.{ℕ, Bool, true, false, cond, List, [], ◌∷◌, is_some, Some}
use Rattle.std.specs.Prelude.{None, Option, ◌==◌}
use Rattle.std.specs.Option.{option_map}
use Rattle.charset.specs.declared.SetRefusal.{SetRefusal}
use Rattle.charset.specs.Meaning.{Codings, Meaning, meaning}
use Rattle.sets.specs.declared.cause.Cause.TheVariants.{NotInUse, NoPair}
use Rattle.sets.specs.Causes.{refusal, no_coding_cause}
use Rattle.sets.specs.Search.{when, or_else, first_in}
use Rattle.sets.specs.Columns.{character_at, byte_of}
use Rattle.sets.specs.Iso6937Table.{supplementary, diacritics}

-- the character that a byte codes alone: SPACE and the primary set are those of ASCII
abbrev pub single : ℕ → Option ℕ
single = character_at supplementary

-- the letters of a diacritic
abbrev pub letters_of : ℕ → Option (List (ℕ × ℕ))
letters_of mark = first_in (λ d. when (d.0 == mark) d.1) diacritics

-- among a diacritic's letters, a letter's character and a character's letter
abbrev pub by_letter : ℕ → ℕ × ℕ → Option ℕ
by_letter letter p = when (p.0 == letter) p.1

abbrev pub by_character : ℕ → ℕ × ℕ → Option ℕ
by_character c p = when (p.1 == c) p.0

abbrev pub accented : ℕ → List (ℕ × ℕ) → Option ℕ
accented letter = first_in (by_letter letter)

abbrev pub letter_of : ℕ → List (ℕ × ℕ) → Option ℕ
letter_of c = first_in (by_character c)

abbrev pub among : ℕ → Option (List (ℕ × ℕ)) → Option ℕ
among letter None = None
among letter (Some letters) = accented letter letters

-- the character that a diacritic and a letter code, and the pair that codes a character
abbrev pub pair : ℕ → ℕ → Option ℕ
pair mark letter = among letter (letters_of mark)

abbrev pub pair_of : ℕ → Option (ℕ × ℕ)
pair_of c = first_in (λ d. option_map (λ letter. (d.0, letter)) (letter_of c d.1)) diacritics

abbrev pub iso6937_character : List ℕ → Option ℕ
iso6937_character [] = None
iso6937_character (b ∷ []) = single b
iso6937_character (mark ∷ letter ∷ []) = pair mark letter
iso6937_character (a ∷ b ∷ c ∷ s) = None

abbrev pub iso6937_string : ℕ → Option (List ℕ)
iso6937_string c =
    or_else (option_map (λ b. b ∷ []) (byte_of supplementary c))
    (option_map (λ p. p.0 ∷ p.1 ∷ []) (pair_of c))

-- the empty string and the thirteen diacritics
abbrev pub iso6937_openings : List ℕ → Bool
iso6937_openings [] = true
iso6937_openings (b ∷ []) = is_some (letters_of b)
iso6937_openings (a ∷ b ∷ s) = false

-- a diacritic in front makes no pair, and any other first byte is not in use
abbrev pub iso6937_causes : List ℕ → SetRefusal
iso6937_causes [] = refusal NotInUse
iso6937_causes (b ∷ s) = cond (is_some (letters_of b)) (refusal NoPair) (refusal NotInUse)

abbrev pub iso6937_codings : Codings
iso6937_codings = record { character = iso6937_character; string = iso6937_string }

abbrev pub iso6937 : Meaning
iso6937 = meaning iso6937_codings iso6937_openings iso6937_causes no_coding_cause
