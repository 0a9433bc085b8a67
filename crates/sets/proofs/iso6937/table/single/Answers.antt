use Rattle.sets.specs.Iso6937Table.{supplementary}
use Rattle.sets.proofs.iso6937.table.single.Goals as goal

pub returns : goal.returns
unfolding supplementary
returns c = c.character_at.ensures
