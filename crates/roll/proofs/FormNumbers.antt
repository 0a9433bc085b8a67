-- A form of text has a number of its own, and none has 0.
use Rattle.std.proofs.Common.{◌≡◌, ℕ, ◌<◌, cond, ◌==◌, refl, sym, ap, ◌∙◌}
use Rattle.std.proofs.Common.{arith}
use Rattle.roll.specs.declared.page.Form.{Form}
use Rattle.roll.specs.declared.page.Form.TheVariants.{EightBit, SevenBit, SevenBitParity, Latin10}
use Rattle.roll.specs.declared.page.Form.TheVariants.{Sami, Unicode, Basic}
use Rattle.roll.specs.Forms.{form_number}

-- the form with a number, and Basic for every number that no other has
form_of : ℕ → Form
form_of n =
    cond (n == 1) EightBit (cond (n == 2) SevenBit (cond (n == 3) SevenBitParity
    (cond (n == 4) Latin10 (cond (n == 5) Sami (cond (n == 6) Unicode Basic)))))

form_back : (f : Form) → form_of (form_number f) ≡ f
unfolding form_of
form_back EightBit = refl
form_back SevenBit = refl
form_back SevenBitParity = refl
form_back Latin10 = refl
form_back Sami = refl
form_back Unicode = refl
form_back Basic = refl

pub same_form : (f g : Form) → form_number f ≡ form_number g → f ≡ g
same_form f g e = sym (form_back f) ∙ ap form_of e ∙ form_back g

pub form_not_0 : (f : Form) → 0 < form_number f
form_not_0 EightBit = omega arith
form_not_0 SevenBit = omega arith
form_not_0 SevenBitParity = omega arith
form_not_0 Latin10 = omega arith
form_not_0 Sami = omega arith
form_not_0 Unicode = omega arith
form_not_0 Basic = omega arith
