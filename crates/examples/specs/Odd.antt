-- A set that is lawful and odd: openings that begin no coding, codings with bytes 19 and 80 to 9F,
-- a surrogate and U+0000 as characters, and causes as deep as can be.
use Rattle.std.specs.Prelude.{ℕ, Bool, true, false, cond, ◌&&◌, ◌||◌, List, [], ◌∷◌}
use Rattle.std.specs.Prelude.{Some, None, Option, ◌==◌}
use Rattle.charset.specs.declared.SetRefusal.{SetRefusal}
use Rattle.charset.specs.Meaning.{Codings, Meaning, meaning}

abbrev pub odd_single : ℕ → Option ℕ
odd_single a =
    cond (a == 0x19) (Some 0) (cond (a == 0x85) (Some 0xd800) (cond (a == 0x20) (Some 0x20) None))

abbrev pub odd_pair : ℕ → ℕ → Option ℕ
odd_pair a b =
    cond (a == 0x80 && b == 0x9f) (Some 0x10ffff) (cond (a == 0xa0 && b == 0xa1) (Some 0x41) None)

-- 43 begins no coding
abbrev pub odd_opens : ℕ → Bool
odd_opens a = a == 0x80 || (a == 0xa0 || a == 0x43)

abbrev pub odd_character : List ℕ → Option ℕ
odd_character [] = None
odd_character (a ∷ []) = odd_single a
odd_character (a ∷ b ∷ []) = odd_pair a b
odd_character (a ∷ b ∷ c ∷ s) = None

abbrev pub odd_string : ℕ → Option (List ℕ)
odd_string c =
    cond (c == 0) (Some (0x19 ∷ [])) (cond (c == 0xd800) (Some (0x85 ∷ []))
    (cond (c == 0x20) (Some (0x20 ∷ []))
    (cond (c == 0x10ffff) (Some (0x80 ∷ 0x9f ∷ []))
    (cond (c == 0x41) (Some (0xa0 ∷ 0xa1 ∷ [])) None))))

abbrev pub odd_openings : List ℕ → Bool
odd_openings [] = true
odd_openings (a ∷ []) = odd_opens a
odd_openings (a ∷ b ∷ s) = false

abbrev pub odd_causes : List ℕ → SetRefusal
odd_causes s = record { cause = 77; depth = 255 }

abbrev pub odd_write_causes : ℕ → SetRefusal
odd_write_causes c = record { cause = 78; depth = 255 }

abbrev pub odd_codings : Codings
odd_codings = record { character = odd_character; string = odd_string }

abbrev pub odd : Meaning
odd = meaning odd_codings odd_openings odd_causes odd_write_causes
