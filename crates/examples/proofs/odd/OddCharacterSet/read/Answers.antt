use Rattle.std.proofs.Common.{rules}
use Rattle.examples.specs.Laws.Odd.{bad_second}
use Rattle.examples.proofs.odd.OddCharacterSet.read.Goals as goal

pub returns-in_err-character : goal.returns-in_err-character
returns-in_err-character c = search (rules, bad_second)
