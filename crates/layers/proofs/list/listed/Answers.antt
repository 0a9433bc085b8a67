use Rattle.layers.proofs.Listed.{listed_by_search}
use Rattle.layers.proofs.list.listed.Goals as goal

pub returns : goal.returns
returns c =
    listed_by_search c.args.characters.now c.args.character c.requires c.binary_search.result
    c.binary_search.ensures.position c.is_ok.result c.is_ok.ensures.value
