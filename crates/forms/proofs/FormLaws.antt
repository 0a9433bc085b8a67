-- The set of every form keeps the laws.
use Rattle.charset.specs.Meaning.{Laws}
use Rattle.sets.specs.SingleByteTables.{iso8859_16, sami}
use Rattle.sets.specs.Laws.Iso6937.{iso6937_laws}
use Rattle.sets.specs.Laws.SingleByte.{single_byte_laws}
use Rattle.sets.specs.Laws.Utf8.{utf8_laws}
use Rattle.sets.proofs.SingleByteTables.{iso8859_16_once, sami_once}
use Rattle.layers.specs.CharacterList.{required}
use Rattle.layers.specs.Laws.LayersKeep.{shift_laws, parity_laws, sub_laws, controls_laws}
use Rattle.roll.specs.declared.page.Form.{Form}
use Rattle.roll.specs.declared.page.Form.TheVariants.{EightBit, SevenBit, SevenBitParity, Latin10}
use Rattle.roll.specs.declared.page.Form.TheVariants.{Sami, Unicode, Basic}
use Rattle.forms.specs.PageControls.{page_controls}
use Rattle.forms.specs.FormSets.{form_set}

pub form_laws : (f : Form) → Laws (form_set f)
form_laws EightBit = controls_laws page_controls iso6937_laws
form_laws SevenBit = controls_laws page_controls (shift_laws iso6937_laws)
form_laws SevenBitParity = parity_laws (controls_laws page_controls (shift_laws iso6937_laws))
form_laws Latin10 = controls_laws page_controls (single_byte_laws iso8859_16 iso8859_16_once)
form_laws Sami = controls_laws page_controls (single_byte_laws sami sami_once)
form_laws Unicode = utf8_laws
form_laws Basic = controls_laws page_controls (sub_laws required iso6937_laws)
