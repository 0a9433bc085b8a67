use Rattle.std.proofs.Common.{rules}
use Rattle.sets.proofs.Iso6937Reads.{not_in_use, no_pair}
use Rattle.sets.proofs.iso6937.Iso6937CharacterSet.read.Goals as goal

pub returns-in_err-letters : goal.returns-in_err-letters
returns-in_err-letters c = search (rules, not_in_use)

pub returns-in_err-character : goal.returns-in_err-character
returns-in_err-character c = search (rules, no_pair, c.letters_of.ensures.pairs)
