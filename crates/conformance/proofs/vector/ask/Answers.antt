use Rattle.std.proofs.Common.{arith}
use Rattle.std.proofs.lemmas.Grind.{common_steps}
use Rattle.conformance.proofs.Answering.{tells_answer}
use Rattle.conformance.proofs.vector.ask.Goals as goal

pub returns-in-Read-clause-only : goal.returns-in-Read-clause-only
returns-in-Read-clause-only g c =
    tells_answer (g.met.S.CharacterSet.lawful c.args.set.now) c.args.question c.args.number
    c.reading_of.result (grind (arith, common_steps))
