-- Which pages of a roll are refused, and by which faults.
use Rattle.std.specs.Prelude.{◌≡◌, ℕ, ◌+◌, ◌<◌, ◌≤◌, ◌⊎◌, List, []}
use Rattle.std.specs.Prelude.{◌∷◌, length, take, Ok, Err, Result, true, false}
use Rattle.charset.specs.Meaning.{Meaning}
use Rattle.roll.specs.declared.refusal.RollRefusal.{RollRefusal}
use Rattle.roll.specs.declared.page.Page.{Page}
use Rattle.roll.specs.Told.{refusal_told}
use Rattle.roll.specs.Format.{page_count}
use Rattle.roll.specs.Opened.{Accepted}
use Rattle.roll.specs.Pages.{PartAt}
use Rattle.report.specs.declared.TheConstants.{LONGEST_INPUT}
use Rattle.report.specs.declared.fault.RollFault.{RollFault}
use Rattle.report.specs.declared.fault.RollFault.TheVariants.{Refused}
use Rattle.report.specs.InOrder.{InOrder}
use Rattle.report.specs.Reports.{PageBlock, InputRefused}

-- the fewest bytes in front that are no opening of a set, or all there are
pub record IsRefusedFront (m : Meaning) (bytes front : List ℕ) : Type 0 where
  pub in_front : front ≡ take (length front) bytes
  pub some : 0 < length bytes → 0 < length front
  pub openings : (k : ℕ) → 0 < k → k < length front → m.openings (take k bytes) ≡ true
  pub ends : (front ≡ bytes) ⊎ (m.openings front ≡ false)

-- the fault of an outcome, where it has one
abbrev pub faults_of : Result (Unit {0}) RollFault → List RollFault
faults_of (Ok u) = []
faults_of (Err f) = f ∷ []

-- the fault of the page at a place, from 0, of the roll b: that of the transcript which its block
-- shows
abbrev pub PageJudged : List ℕ → ℕ → List RollFault → Type 0
PageJudged b k faults =
    (page : Page) × PartAt b k page × (block : List ℕ) × (shown : PageBlock (k + 1) page block)
    × (faults ≡ faults_of shown.outcome)

abbrev pub AllPagesJudged : List ℕ → List RollFault → Type 0
AllPagesJudged b faults = InOrder (PageJudged b) (page_count b) faults

-- of a refused input its refusal, and of any other the faults of its pages
abbrev pub RefusedPages : List ℕ → List RollFault → Type 0
RefusedPages b faults =
    ((e : RollRefusal) × InputRefused b (refusal_told e) × (faults ≡ Refused e ∷ []))
    ⊎ ((length b ≤ LONGEST_INPUT) × Accepted b × AllPagesJudged b faults)
