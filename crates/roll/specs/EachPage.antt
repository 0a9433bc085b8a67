-- The pages of a roll, one after the other.
use Rattle.std.specs.Prelude.{◌≡◌, ℕ, ◌+◌, ◌<◌, List, Option, MatchOption}
use Rattle.roll.specs.declared.page.Page.{Page}
use Rattle.roll.specs.declared.each_page.Pages.{Pages}
use Rattle.roll.specs.Format.{page_count}
use Rattle.roll.specs.Pages.{PartAt}
use Rattle.roll.specs.Rolls.{bytes_of}

-- the bytes of which pages come
abbrev pub source : Pages → List ℕ
source s = bytes_of s.roll

-- the next page with its number, from 1, or nothing behind the last
abbrev pub NextPage : Pages → Option (ℕ × Page) → Pages → Type 0
NextPage s r t =
    (source t ≡ source s)
    × MatchOption r ((s.past ≡ page_count (source s)) × (t.past ≡ s.past))
    (λ p. (s.past < page_count (source s)) × (t.past ≡ s.past + 1) × (p.0 ≡ t.past)
    × PartAt (source s) s.past p.1)
