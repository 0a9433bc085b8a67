use Rattle.std.proofs.Common.{refl}
use Rattle.sets.specs.SingleByteTables.{iso8859_16}
use Rattle.sets.proofs.SingleByteTables.{iso8859_16_once}
use Rattle.sets.proofs.single_byte.SingleByte.iso8859_16.Goals as goal

pub invariant_of-result : goal.invariant_of-result
unfolding iso8859_16
invariant_of-result c = record { unambiguous = iso8859_16_once }

pub returns : goal.returns
unfolding iso8859_16
returns c = refl
