-- The set of a form keeps the laws.
use Rattle.charset.specs.Meaning.{Laws}
use Rattle.sets.specs.Laws.Iso6937.{iso6937_laws}
use Rattle.sets.specs.Laws.SingleByte.{single_byte_laws}
use Rattle.sets.specs.Laws.Utf8.{utf8_laws}
use Rattle.layers.specs.Laws.LayersKeep.{shift_laws, parity_laws, sub_laws, controls_laws}
use Rattle.forms.specs.declared.FormSet.{FormSet}
use Rattle.forms.specs.declared.FormSet.TheVariants.{EightBit, SevenBit, SevenBitParity}
use Rattle.forms.specs.declared.FormSet.TheVariants.{SingleByte, Unicode, Basic}
use Rattle.forms.specs.Chosen.{meaning_of}

pub chosen_laws : (s : FormSet) → Laws (meaning_of s)
chosen_laws (EightBit s) = controls_laws s.chosen iso6937_laws
chosen_laws (SevenBit s) = controls_laws s.chosen (shift_laws iso6937_laws)
chosen_laws (SevenBitParity s) =
    parity_laws (controls_laws s.below.chosen (shift_laws iso6937_laws))
chosen_laws (SingleByte s) =
    controls_laws s.chosen (single_byte_laws s.below.table.columns s.below.unambiguous)
chosen_laws (Unicode s) = utf8_laws
chosen_laws (Basic s) = controls_laws s.chosen (sub_laws s.below.list iso6937_laws)
