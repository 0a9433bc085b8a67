use Rattle.layers.specs.Laws.LayersKeep.{controls_laws}
use Rattle.layers.proofs.MoreWording.{controls_meaning}
use Rattle.layers.proofs.stack.with_controls.Goals as goal

pub returns-clause-keeps_laws : goal.returns-clause-keeps_laws
returns-clause-keeps_laws g c =
    controls_laws c.args.chosen (g.met.S.CharacterSet.lawful c.args.below)

pub returns-clause-means_controls : goal.returns-clause-means_controls
returns-clause-means_controls g c =
    controls_meaning c.args.chosen _ (g.met.S.CharacterSet.lawful c.args.below)
