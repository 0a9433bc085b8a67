-- The set of each form of text.
use Rattle.charset.specs.Meaning.{Meaning}
use Rattle.sets.specs.Iso6937.{iso6937}
use Rattle.sets.specs.SingleByte.{single_byte}
use Rattle.sets.specs.SingleByteTables.{iso8859_16, sami}
use Rattle.sets.specs.Utf8.{utf8}
use Rattle.layers.specs.CharacterList.{required}
use Rattle.layers.specs.Layers.{parity, shift, sub, controls}
use Rattle.roll.specs.declared.page.Form.{Form}
use Rattle.roll.specs.declared.page.Form.TheVariants.{EightBit, SevenBit, SevenBitParity, Latin10}
use Rattle.roll.specs.declared.page.Form.TheVariants.{Sami, Unicode, Basic}
use Rattle.forms.specs.PageControls.{page_controls}

abbrev pub form_set : Form → Meaning
form_set EightBit = controls page_controls iso6937
form_set SevenBit = controls page_controls (shift iso6937)
form_set SevenBitParity = parity (controls page_controls (shift iso6937))
form_set Latin10 = controls page_controls (single_byte iso8859_16)
form_set Sami = controls page_controls (single_byte sami)
form_set Unicode = utf8
form_set Basic = controls page_controls (sub required iso6937)
