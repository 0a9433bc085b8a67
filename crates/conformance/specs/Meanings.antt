-- What the sets that vectors name code.
use Rattle.charset.specs.Meaning.{Meaning}
use Rattle.sets.specs.Iso6937.{iso6937}
use Rattle.sets.specs.SingleByte.{single_byte}
use Rattle.sets.specs.SingleByteTables.{iso8859_16, sami}
use Rattle.sets.specs.Utf8.{utf8}
use Rattle.conformance.specs.declared.vector.Set.{Set}
use Rattle.conformance.specs.declared.vector.Set.TheVariants as set

abbrev pub named_meaning : Set → Meaning
named_meaning set.Iso6937 = iso6937
named_meaning set.Iso8859v16 = single_byte iso8859_16
named_meaning set.Sami = single_byte sami
named_meaning set.Utf8 = utf8
