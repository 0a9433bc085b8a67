-- What is written of a roll.
use Rattle.std.specs.Prelude.{◌≡◌, ℕ, ◌+◌, ◌<◌, ◌≤◌, ◌⊎◌, List, []}
use Rattle.std.specs.Prelude.{◌∷◌, ◌++◌, length, Ok, Err, decimal, Result}
use Rattle.roll.specs.declared.refusal.RollRefusal.{RollRefusal}
use Rattle.roll.specs.declared.refusal.RollRefusal.TheVariants.{WrongSize}
use Rattle.roll.specs.declared.refusal.RefusalTold.{RefusalTold}
use Rattle.report.specs.declared.fault.RollFault.{RollFault}
use Rattle.report.specs.declared.fault.RollFault.TheVariants.{Refused}
use Rattle.roll.specs.declared.page.Page.{Page}
use Rattle.roll.specs.Told.{refusal_told}
use Rattle.roll.specs.declared.roll.Roll.{Roll}
use Rattle.roll.specs.Format.{page_count}
use Rattle.roll.specs.Opened.{Refuses, Accepted}
use Rattle.roll.specs.Rolls.{bytes_of}
use Rattle.roll.specs.Pages.{PartAt}
use Rattle.report.specs.declared.TheConstants.{LONGEST_INPUT}
use Rattle.report.specs.Texts.{page_form, IsPageText}
use Rattle.report.specs.Lines.{block_of}
use Rattle.report.specs.InOrder.{InOrder}

-- the text of a page by its form, and its line, each with a line feed behind
pub record PageBlock (n : ℕ) (page : Page) (block : List ℕ) : Type 0 where
  pub text : List ℕ
  pub characters : ℕ
  pub outcome : Result (Unit {0}) RollFault
  pub transcribed : IsPageText n page text characters outcome
  pub written : block ≡ block_of text n (page_form page) characters outcome

-- the block of the page at a place, from 0, of the roll b
abbrev pub PageWritten : List ℕ → ℕ → List ℕ → Type 0
PageWritten b k block = (page : Page) × PartAt b k page × PageBlock (k + 1) page block

-- the first pages, one behind the other
abbrev pub PagesWritten : List ℕ → ℕ → List ℕ → Type 0
PagesWritten b = InOrder (PageWritten b)

abbrev pub AllPagesWritten : List ℕ → List ℕ → Type 0
AllPagesWritten b out = PagesWritten b (page_count b) out

-- a number alone on a line
abbrev pub number_line : ℕ → List ℕ
number_line n = decimal n ++ (0x0a ∷ [])

-- an input over 65,536 bytes is refused by 14, and any other as a roll is
abbrev pub InputRefused : List ℕ → RefusalTold → Type 0
InputRefused b t =
    ((LONGEST_INPUT < length b) × (t ≡ refusal_told WrongSize))
    ⊎ ((length b ≤ LONGEST_INPUT) × Refuses b t)

abbrev pub OpensInput : List ℕ → Result Roll RollFault → Type 0
OpensInput b (Ok roll) = (length b ≤ LONGEST_INPUT) × (bytes_of roll ≡ b)
OpensInput b (Err f) = (e : RollRefusal) × (f ≡ Refused e) × InputRefused b (refusal_told e)

-- a refused input is answered by its number, and any other by its pages
abbrev pub Reports : List ℕ → List ℕ → Type 0
Reports b out =
    ((t : RefusalTold) × InputRefused b t × (out ≡ number_line t.number))
    ⊎ ((length b ≤ LONGEST_INPUT) × Accepted b × AllPagesWritten b out)

-- no input has two reports
abbrev pub OneReport : List ℕ → Type 0
OneReport b = (out out' : List ℕ) → Reports b out → Reports b out' → out ≡ out'
