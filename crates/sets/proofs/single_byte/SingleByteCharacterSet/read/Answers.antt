use Rattle.std.proofs.Common.{rules}
use Rattle.sets.proofs.SingleByteReads.{not_in_use}
use Rattle.sets.proofs.single_byte.SingleByteCharacterSet.read.Goals as goal

pub returns-in_err-character : goal.returns-in_err-character
returns-in_err-character c = search (rules, not_in_use)
