-- Which part of a roll a page is.
use Rattle.std.specs.Prelude.{◌≡◌, ℕ, ◌-◌, ◌<◌, ◌≤◌, ◌⊎◌, List, Ok, Err}
use Rattle.std.specs.Prelude.{Result}
use Rattle.roll.specs.declared.refusal.RollRefusal.{RollRefusal}
use Rattle.roll.specs.declared.refusal.RollRefusal.TheVariants.{NoSuchPage}
use Rattle.roll.specs.declared.page.Page.{Page}
use Rattle.roll.specs.declared.page.Page.TheVariants.{Text, Picture}
use Rattle.roll.specs.Told.{refusal_told}
use Rattle.roll.specs.Forms.{form_number}
use Rattle.roll.specs.Format.{page_count, offset, form, page_bytes}

-- the page is the part of the roll that its entry, the k-th from 0, names, with its offset
abbrev pub PartAt : List ℕ → ℕ → Page → Type 0
PartAt b k (Text f part at) =
    (form b k ≡ form_number f) × (part.now ≡ page_bytes b k) × (at ≡ offset b k)
PartAt b k (Picture part at) =
    (form b k ≡ 0) × (part.now ≡ page_bytes b k) × (at ≡ offset b k)

-- pages count from 1
abbrev pub PageAt : List ℕ → ℕ → Result Page RollRefusal → Type 0
PageAt b n (Ok p) = (0 < n) × (n ≤ page_count b) × PartAt b (n - 1) p
PageAt b n (Err e) =
    (refusal_told e ≡ refusal_told NoSuchPage) × ((n ≡ 0) ⊎ (page_count b < n))
