-- What the set of a form means.
use Rattle.charset.specs.Meaning.{Meaning}
use Rattle.sets.specs.Iso6937.{iso6937}
use Rattle.sets.specs.SingleByte.{single_byte}
use Rattle.sets.specs.Utf8.{utf8}
use Rattle.layers.specs.Layers.{parity, shift, sub, controls}
use Rattle.forms.specs.declared.FormSet.{FormSet}
use Rattle.forms.specs.declared.FormSet.TheVariants.{EightBit, SevenBit, SevenBitParity}
use Rattle.forms.specs.declared.FormSet.TheVariants.{SingleByte, Unicode, Basic}

abbrev pub meaning_of : FormSet → Meaning
meaning_of (EightBit s) = controls s.chosen iso6937
meaning_of (SevenBit s) = controls s.chosen (shift iso6937)
meaning_of (SevenBitParity s) = parity (controls s.below.chosen (shift iso6937))
meaning_of (SingleByte s) = controls s.chosen (single_byte s.below.table.columns)
meaning_of (Unicode s) = utf8
meaning_of (Basic s) = controls s.chosen (sub s.below.list iso6937)
