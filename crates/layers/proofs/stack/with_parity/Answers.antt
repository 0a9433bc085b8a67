use Rattle.layers.specs.Laws.LayersKeep.{parity_laws}
use Rattle.layers.proofs.Wording.{parity_meaning}
use Rattle.layers.proofs.stack.with_parity.Goals as goal

pub returns-clause-keeps_laws : goal.returns-clause-keeps_laws
returns-clause-keeps_laws g c = parity_laws (g.met.S.CharacterSet.lawful c.args.below)

pub returns-clause-means_parity : goal.returns-clause-means_parity
returns-clause-means_parity g c = parity_meaning _ (g.met.S.CharacterSet.lawful c.args.below)
