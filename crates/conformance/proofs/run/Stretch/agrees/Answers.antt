use Rattle.conformance.proofs.Answering.{agree_alike}
use Rattle.conformance.proofs.run.Stretch.agrees.Goals as goal

pub returns-clause-whenever_all_agree : goal.returns-clause-whenever_all_agree
returns-clause-whenever_all_agree c all =
    c.agrees.ensures.whenever_they_agree
    (agree_alike c.args.self.now.vector.now c.args.self.now.from c.args.self.now.to
    c.args.self.now.ours c.args.self.now.some c.args.self.now.answered all)
