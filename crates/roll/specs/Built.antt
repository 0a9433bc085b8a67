-- How a builder holds its pages.
use Rattle.std.specs.Prelude.{◌≡◌, ℕ, ◌+◌, ◌*◌, ◌≤◌, List, [], ◌∷◌}
use Rattle.std.specs.Prelude.{◌++◌, length, take, drop, sum_by, All}
use Rattle.roll.specs.declared.TheConstants.{LARGEST_ROLL, MOST_PAGES, ENTRY_BYTES, TRAILER_BYTES}
use Rattle.roll.specs.declared.TheConstants.{LAST_FORM}
use Rattle.roll.specs.declared.builder.NewEntry.{NewEntry}
use Rattle.roll.specs.Packed.{PackedPage, page_of, entry_of}

-- the pages, cut from their bytes
abbrev pub pages_in : List NewEntry → List ℕ → List PackedPage
pages_in [] bytes = []
pages_in (e ∷ es) bytes =
    page_of e.form (take e.size bytes) ∷ pages_in es (drop e.size bytes)

-- the entries' sizes add up to all bytes, and a roll can hold the pages
pub record IsBuilt (entries : List NewEntry) (bytes : List ℕ) : Type 0 where
  pub few : length entries ≤ MOST_PAGES
  pub adds_up : sum_by (λ e. e.size) entries ≡ length bytes
  pub short : length bytes + ENTRY_BYTES * length entries + TRAILER_BYTES ≤ LARGEST_ROLL
  pub forms : All (λ e. e.form ≤ LAST_FORM) entries

-- the index of entries of which the first page begins at an offset
abbrev pub index_of : (offset : ℕ) → List NewEntry → List ℕ
index_of offset [] = []
index_of offset (e ∷ es) = entry_of offset e.size e.form ++ index_of (offset + e.size) es
