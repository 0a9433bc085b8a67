-- A code table of single bytes: ASCII in the lower half, and six columns of sixteen rows in the
-- upper.
use Rattle.std.specs.Prelude.{ℕ, ◌-◌, ◌/◌, ◌%◌, Bool, true, false, cond, ◌&&◌}
use Rattle.std.specs.Prelude.{List, [], Some, None, Option, ◌==◌, nat_le, nat_lt, slice_index}
use Rattle.std.specs.Prelude.{slice_index_or}
use Rattle.sets.specs.Search.{first_from, every_from}

-- 02/00 to 07/14, where the character's number is the byte's
abbrev pub ascii : ℕ → Bool
ascii b = nat_le 0x20 b && nat_lt b 0x7f

-- 0 marks a position where no character stands
abbrev pub in_use : ℕ → Option ℕ
in_use c = cond (c == 0) None (Some c)

-- the character in columns 10 to 15, bytes A0 to FF: byte 16 * column + row
abbrev pub upper_at : List (List ℕ) → ℕ → Option ℕ
upper_at columns b =
    cond (nat_le 0xa0 b && nat_le b 0xff)
    (in_use (slice_index (slice_index_or columns ((b - 0xa0) / 16) []) ((b - 0xa0) % 16))) None

-- the character of a byte
abbrev pub character_at : List (List ℕ) → ℕ → Option ℕ
character_at columns b = cond (ascii b) (Some b) (upper_at columns b)

abbrev pub is_character : ℕ → Option ℕ → Bool
is_character c None = false
is_character c (Some d) = d == c

-- the byte of a character: in the upper half the first that has it
abbrev pub upper_of : List (List ℕ) → ℕ → Option ℕ
upper_of columns c = first_from (λ b. is_character c (upper_at columns b)) 0xa0 96

abbrev pub byte_of : List (List ℕ) → ℕ → Option ℕ
byte_of columns c = cond (ascii c) (Some c) (upper_of columns c)

-- the character at b, if any, is found again at b and nowhere before, and does not lie above
-- U+10FFFF
abbrev pub placed_once : List (List ℕ) → ℕ → Option ℕ → Bool
placed_once columns b None = true
placed_once columns b (Some c) = is_character b (byte_of columns c) && nat_le c 0x10ffff

-- no character stands at two positions of the upper half, or in both halves, and none lies above
-- U+10FFFF
unfoldable pub one_to_one : List (List ℕ) → Bool
one_to_one columns = every_from (λ b. placed_once columns b (upper_at columns b)) 0xa0 96
