use Rattle.std.proofs.Common.{refl}
use Rattle.sets.specs.SingleByteTables.{sami}
use Rattle.sets.proofs.SingleByteTables.{sami_once}
use Rattle.sets.proofs.single_byte.SingleByte.sami.Goals as goal

pub invariant_of-result : goal.invariant_of-result
unfolding sami
invariant_of-result c = record { unambiguous = sami_once }

pub returns : goal.returns
unfolding sami
returns c = refl
