use Rattle.std.proofs.Common.{refl, rules}
use Rattle.transcript.specs.Uses.{status}
use Rattle.transcript.proofs.Stepping.{steps}
use Rattle.transcript.proofs.calls.Transcript.status.Goals as goal

pub returns-clause-goes_on : goal.returns-clause-goes_on
returns-clause-goes_on g c =
    (steps c.args.self.now c.args.self.now (status c.status.result) (search rules)
    (c.status.ensures, refl)).goes_on
