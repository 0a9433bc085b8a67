-- A roll that holds given pages.
use Rattle.std.specs.Prelude.{◌≡◌, ℕ, List, Some, length, take, slice_get}
use Rattle.roll.specs.Format.{page_count, offset, form, page_bytes}
use Rattle.roll.specs.Opened.{Accepted}
use Rattle.roll.specs.Packed.{PackedPage, pages_joined}

-- the k-th page of a roll, from 0, is this one, and starts at this offset
pub record HasPage (b : List ℕ) (k start : ℕ) (p : PackedPage) : Type 0 where
  pub its_form : form b k ≡ p.form
  pub its_bytes : page_bytes b k ≡ p.bytes
  pub its_offset : offset b k ≡ start

-- the roll opens, and its pages are these, each where the ones before it end
pub record IsRollOf (ps : List PackedPage) (b : List ℕ) : Type 0 where
  pub accepted : Accepted b
  pub count : page_count b ≡ length ps
  pub pages : (k : ℕ) (p : PackedPage) → slice_get ps k ≡ Some p
      → HasPage b k (length (pages_joined (take k ps))) p
