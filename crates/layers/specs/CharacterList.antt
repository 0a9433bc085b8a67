-- A subrepertoire's list of characters.
use Rattle.std.specs.Prelude.{◌≡◌, ℕ, ◌-◌, ◌<◌, ◌≤◌, Bool, true, ◌&&◌}
use Rattle.std.specs.Prelude.{◌||◌, List, ◌∷◌, ◌++◌, length, ◌==◌, nat_le, nat_lt}
use Rattle.std.specs.Prelude.{slice_index}
use Rattle.std.specs.List.{list_any, range_with_len}
use Rattle.layers.specs.declared.list.TheConstants.{MOST_CHARACTERS, LAST_CHARACTER}

-- the characters that every list holds: SPACE ' ( ) + , - . / then 0 to 9, : = ? and A to Z, a to z
unfoldable pub required : List ℕ
required =
    0x20 ∷ 0x27 ∷ 0x28 ∷ 0x29 ∷ 0x2b ∷ 0x2c ∷ 0x2d ∷ 0x2e ∷ 0x2f
    ∷ (range_with_len 0x30 10 ++ (0x3a ∷ 0x3d ∷ 0x3f ∷
    (range_with_len 0x41 26 ++ range_with_len 0x61 26)))

-- whether a character stands on a list
abbrev pub on_list : List ℕ → ℕ → Bool
on_list xs c = list_any (λ x. x == c) xs

-- whether the number at i is at most U+10FFFF and above the one before it
abbrev pub rises_at : List ℕ → ℕ → Bool
rises_at xs i =
    nat_le (slice_index xs i) LAST_CHARACTER &&
    (i == 0 || nat_lt (slice_index xs (i - 1)) (slice_index xs i))

-- the numbers are code points in increasing order
abbrev pub Rising : List ℕ → Type 0
Rising xs = (i : ℕ) → i < length xs → rises_at xs i ≡ true

-- every required character is listed
abbrev pub Complete : List ℕ → Type 0
Complete xs = (c : ℕ) → on_list required c ≡ true → on_list xs c ≡ true

-- what every list keeps: at most 512 characters, increasing, the required ones among them
abbrev pub Sound : List ℕ → Type 0
Sound xs = (length xs ≤ MOST_CHARACTERS) × Rising xs × Complete xs
