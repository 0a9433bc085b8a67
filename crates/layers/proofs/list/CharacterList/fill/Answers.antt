use Rattle.layers.proofs.Once.{one_answer}
use Rattle.layers.proofs.list.CharacterList.fill.Goals as goal

pub returns-in_err-check-clause-one_answer : goal.returns-in_err-check-clause-one_answer
returns-in_err-check-clause-one_answer g c = one_answer _ _
