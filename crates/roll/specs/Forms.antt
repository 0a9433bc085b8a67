-- The number of each form of text.
use Rattle.std.specs.Prelude.{◌≡◌, ℕ, ◌<◌, ◌⊎◌, Ok, Err, Result}
use Rattle.roll.specs.declared.page.Form.{Form}
use Rattle.roll.specs.declared.page.Form.TheVariants.{EightBit, SevenBit, SevenBitParity, Latin10}
use Rattle.roll.specs.declared.page.Form.TheVariants.{Sami, Unicode, Basic}
use Rattle.roll.specs.declared.page.UnknownForm.{UnknownForm}
use Rattle.roll.specs.declared.TheConstants.{LAST_FORM}

abbrev pub form_number : Form → ℕ
form_number EightBit = 1
form_number SevenBit = 2
form_number SevenBitParity = 3
form_number Latin10 = 4
form_number Sami = 5
form_number Unicode = 6
form_number Basic = 7

-- the form with that number, or the number where no form has it
abbrev pub FormOf : ℕ → Result Form UnknownForm → Type 0
FormOf n (Ok f) = n ≡ form_number f
FormOf n (Err e) = ((n ≡ 0) ⊎ (LAST_FORM < n)) × (e.0 ≡ n)
