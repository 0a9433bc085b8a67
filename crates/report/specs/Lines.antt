-- The line on how a page went.
use Rattle.std.specs.Prelude.{ℕ, List, [], ◌∷◌, ◌++◌, Some, None, Ok, Err, codes}
use Rattle.std.specs.Prelude.{decimal, Option, Result}
use Rattle.report.specs.declared.fault.RollFault.{RollFault}
use Rattle.roll.specs.declared.page.Form.{Form}
use Rattle.roll.specs.Forms.{form_number}
use Rattle.report.specs.declared.text.PageText.{PageText}
use Rattle.report.specs.Told.{fault_told}

-- the number of a page's form; a picture has 0
abbrev pub form_told : Option Form → ℕ
form_told None = 0
form_told (Some f) = form_number f

-- how a page went: ok, or the refusal, @ and the offset
abbrev pub outcome_told : Result (Unit {0}) RollFault → List ℕ
outcome_told (Ok u) = codes "ok"
outcome_told (Err f) =
    decimal (fault_told f).told.number ++ (codes "@" ++ decimal (fault_told f).told.offset)

-- page number, form and characters, then how the page went
abbrev pub line_with : (number form characters : ℕ) → Result (Unit {0}) RollFault → List ℕ
line_with n form characters r =
    decimal n ++ (codes " " ++ (decimal form ++ (codes " " ++ (decimal characters
    ++ (codes " " ++ outcome_told r)))))

abbrev pub line_of : (number : ℕ) (form : Option Form) (characters : ℕ)
    → Result (Unit {0}) RollFault → List ℕ
line_of n form characters r = line_with n (form_told form) characters r

abbrev pub line_told : ℕ → PageText → List ℕ
line_told n t = line_with n t.form t.characters t.outcome

-- the text of a page, its line, and a line feed behind each
abbrev pub block_of : (text : List ℕ) → (number : ℕ) (form : Option Form) (characters : ℕ)
    → Result (Unit {0}) RollFault → List ℕ
block_of text n form characters r = text ++ (0x0a ∷ line_of n form characters r ++ (0x0a ∷ []))
