use Rattle.layers.specs.Laws.LayersKeep.{sub_laws}
use Rattle.layers.proofs.MoreWording.{sub_meaning}
use Rattle.layers.proofs.stack.with_list.Goals as goal

pub returns-clause-keeps_laws : goal.returns-clause-keeps_laws
returns-clause-keeps_laws g c = sub_laws c.args.list (g.met.S.CharacterSet.lawful c.args.below)

pub returns-clause-means_subrepertoire : goal.returns-clause-means_subrepertoire
returns-clause-means_subrepertoire g c =
    sub_meaning c.args.list _ (g.met.S.CharacterSet.lawful c.args.below)
