-- The format of a roll: pages, then an index, then a trailer of sixteen bytes.
use Rattle.std.specs.Prelude.{◌≡◌, ℕ, zero, suc, ◌+◌, ◌-◌, ◌*◌, ◌<◌}
use Rattle.std.specs.Prelude.{◌≤◌, Bool, true, cond, ◌&&◌, List, [], ◌++◌, length}
use Rattle.std.specs.Prelude.{take, drop, ◌==◌, nat_le, slice_index}
use Rattle.roll.specs.declared.TheConstants.{SMALLEST_ROLL, LARGEST_ROLL, MOST_PAGES, ENTRY_BYTES}
use Rattle.roll.specs.declared.TheConstants.{TRAILER_BYTES, LAST_FORM}
use Rattle.roll.specs.declared.roll.TheConstants.{MARK}

-- a number of four bytes, the highest first
abbrev pub word : List ℕ → ℕ → ℕ
word b i =
    ((slice_index b i * 256 + slice_index b (i + 1)) * 256 + slice_index b (i + 2)) * 256 +
    slice_index b (i + 3)

-- the trailer: where the index begins, how many pages there are, the total of their lengths, and a
-- mark
abbrev pub index_offset : List ℕ → ℕ
index_offset b = word b (length b - TRAILER_BYTES)

abbrev pub page_count : List ℕ → ℕ
page_count b = word b (length b - 12)

abbrev pub total : List ℕ → ℕ
total b = word b (length b - 8)

abbrev pub mark : List ℕ → ℕ
mark b = word b (length b - 4)

-- an entry of the index, by its place from 0, has twelve bytes: offset, length, form, and three
-- bytes 00
abbrev pub entry : List ℕ → ℕ → ℕ
entry b k = index_offset b + ENTRY_BYTES * k

abbrev pub offset : List ℕ → ℕ → ℕ
offset b k = word b (entry b k)

abbrev pub size : List ℕ → ℕ → ℕ
size b k = word b (entry b k + 4)

abbrev pub form : List ℕ → ℕ → ℕ
form b k = slice_index b (entry b k + 8)

abbrev pub padded : List ℕ → ℕ → Bool
padded b k =
    slice_index b (entry b k + 9) == 0 &&
    (slice_index b (entry b k + 10) == 0 && slice_index b (entry b k + 11) == 0)

-- a page starts where the one before ends, and the first at 0
abbrev pub starts : List ℕ → ℕ → ℕ
starts b zero = 0
starts b (suc k) = offset b k + size b k

-- the last page ends where the index begins
abbrev pub last_ends : List ℕ → ℕ → Bool
last_ends b k = cond (k + 1 == page_count b) (offset b k + size b k == index_offset b) true

abbrev pub entry_holds : List ℕ → ℕ → Bool
entry_holds b k =
    offset b k == starts b k && (nat_le (form b k) LAST_FORM && (padded b k && last_ends b k))

-- the lengths of the first pages together
abbrev pub sizes : List ℕ → ℕ → ℕ
sizes b zero = 0
sizes b (suc k) = sizes b k + size b k

-- the rules, in their order
abbrev pub Sized : List ℕ → Type 0
Sized b = (SMALLEST_ROLL ≤ length b) × (length b ≤ LARGEST_ROLL)

abbrev pub Marked : List ℕ → Type 0
Marked b = mark b ≡ MARK

abbrev pub Indexed : List ℕ → Type 0
Indexed b =
    (page_count b ≤ MOST_PAGES)
    × (index_offset b + ENTRY_BYTES * page_count b + TRAILER_BYTES ≡ length b)

abbrev pub NoPagesNoBytes : List ℕ → Type 0
NoPagesNoBytes b = page_count b ≡ 0 → index_offset b ≡ 0

abbrev pub EntriesHold : List ℕ → Type 0
EntriesHold b = (k : ℕ) → k < page_count b → entry_holds b k ≡ true

abbrev pub Totalled : List ℕ → Type 0
Totalled b = total b ≡ sizes b (page_count b)

-- the bytes of a page, and of the first pages joined
abbrev pub page_bytes : List ℕ → ℕ → List ℕ
page_bytes b k = take (size b k) (drop (offset b k) b)

abbrev pub joined : List ℕ → ℕ → List ℕ
joined b zero = []
joined b (suc k) = joined b k ++ page_bytes b k
