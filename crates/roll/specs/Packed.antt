-- The bytes of a roll as it is packed.
use Rattle.std.specs.Prelude.{ℕ, ◌+◌, ◌*◌, ◌/◌, ◌%◌, ◌<◌, ◌≤◌, List, []}
use Rattle.std.specs.Prelude.{◌∷◌, ◌++◌, length, Ok, Err, Result, All, codes}
use Rattle.roll.specs.declared.pack_refusal.PackRefusal.{PackRefusal}
use Rattle.roll.specs.declared.pack_refusal.PackRefusal.TheVariants.{FormTooHigh, TooManyPages}
use Rattle.roll.specs.declared.pack_refusal.PackRefusal.TheVariants.{TooLong, NoMemory}
use Rattle.roll.specs.declared.TheConstants.{LARGEST_ROLL, MOST_PAGES, ENTRY_BYTES, TRAILER_BYTES}
use Rattle.roll.specs.declared.TheConstants.{LAST_FORM}

pub record PackedPage : Type 0 where
  pub form : ℕ
  pub bytes : List ℕ

abbrev pub page_of : (form : ℕ) → (bytes : List ℕ) → PackedPage
page_of form bytes = record { form = form; bytes = bytes }

-- a number in four bytes, the highest first
abbrev pub in_four : ℕ → List ℕ
in_four n = (n / 16777216) ∷ (n / 65536 % 256) ∷ (n / 256 % 256) ∷ (n % 256) ∷ []

-- an entry of the index: offset, length, form and three bytes 00
abbrev pub entry_of : (offset size form : ℕ) → List ℕ
entry_of offset size form = in_four offset ++ (in_four size ++ (form ∷ 0 ∷ 0 ∷ 0 ∷ []))

-- the bytes of pages, one page behind the other
abbrev pub pages_joined : List PackedPage → List ℕ
pages_joined [] = []
pages_joined (p ∷ ps) = p.bytes ++ pages_joined ps

-- the index of pages of which the first begins at an offset
abbrev pub index_from : (offset : ℕ) → List PackedPage → List ℕ
index_from offset [] = []
index_from offset (p ∷ ps) =
    entry_of offset (length p.bytes) p.form ++ index_from (offset + length p.bytes) ps

-- the trailer: the index begins where the pages end, which is the total of their lengths too
abbrev pub trailer_of : (total count : ℕ) → List ℕ
trailer_of total count =
    in_four total ++ (in_four count ++ (in_four total ++ codes "ROLL"))

-- the pages, the index and the trailer
abbrev pub packed : List PackedPage → List ℕ
packed ps =
    pages_joined ps ++ (index_from 0 ps ++ trailer_of (length (pages_joined ps)) (length ps))

-- how many bytes pages and their index have
abbrev pub used_by : List PackedPage → ℕ
used_by ps = length (pages_joined ps) + ENTRY_BYTES * length ps

-- a roll can hold these pages
pub record FitsRoll (ps : List PackedPage) : Type 0 where
  pub few : length ps ≤ MOST_PAGES
  pub short : used_by ps + TRAILER_BYTES ≤ LARGEST_ROLL
  pub forms : All (λ p. p.form ≤ LAST_FORM) ps

-- how many bytes a roll has with a page more
abbrev pub size_with : (used size : ℕ) → ℕ
size_with used size = used + ENTRY_BYTES + size + TRAILER_BYTES

-- whether a roll can hold a page more: the first reason that it cannot
abbrev pub RoomFor : {X : Type 0} → (form count used size : ℕ) → Result X PackRefusal
    → Type 0
RoomFor form count used size (Ok b) =
    (form ≤ LAST_FORM) × (count < MOST_PAGES) × (size_with used size ≤ LARGEST_ROLL)
RoomFor form count used size (Err FormTooHigh) = LAST_FORM < form
RoomFor form count used size (Err TooManyPages) = (form ≤ LAST_FORM) × (MOST_PAGES ≤ count)
RoomFor form count used size (Err TooLong) =
    (form ≤ LAST_FORM) × (count < MOST_PAGES) × (LARGEST_ROLL < size_with used size)
RoomFor form count used size (Err NoMemory) =
    (form ≤ LAST_FORM) × (count < MOST_PAGES) × (size_with used size ≤ LARGEST_ROLL)
