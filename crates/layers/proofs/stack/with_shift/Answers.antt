use Rattle.layers.specs.Laws.LayersKeep.{shift_laws}
use Rattle.layers.proofs.Wording.{shift_meaning}
use Rattle.layers.proofs.stack.with_shift.Goals as goal

pub returns-clause-keeps_laws : goal.returns-clause-keeps_laws
returns-clause-keeps_laws g c = shift_laws (g.met.S.CharacterSet.lawful c.args.below)

pub returns-clause-means_shift : goal.returns-clause-means_shift
returns-clause-means_shift g c = shift_meaning _ (g.met.S.CharacterSet.lawful c.args.below)
