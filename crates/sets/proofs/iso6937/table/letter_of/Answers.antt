use Rattle.std.proofs.Common.{refl, rules}
use Rattle.sets.specs.Iso6937.{by_character}
use Rattle.sets.proofs.Searches.{first_answer}
use Rattle.sets.proofs.iso6937.table.letter_of.Goals as goal

pub returns : goal.returns
returns c =
    first_answer _ (by_character _) (λ o. o) refl (λ y. refl) (λ x o q m. search rules)
    c.find_map.result c.args.letters.now c.iter.ensures.rest c.iter.ensures.runs
    c.find_map.ensures.runs
