use Rattle.std.proofs.Common.{refl, ap, rules}
use Rattle.std.specs.Option.{option_map}
use Rattle.sets.specs.Iso6937.{letter_of}
use Rattle.sets.specs.declared.iso6937.table.Diacritic.{Diacritic}
use Rattle.sets.specs.Iso6937Table.{diacritics}
use Rattle.sets.proofs.Searches.{first_answer}
use Rattle.sets.proofs.TableOrder.{same_table, code_pair}
use Rattle.sets.proofs.iso6937.table.pair_of.Goals as goal

pub returns : goal.returns
unfolding diacritics
returns c =
    let found = first_answer _ (λ (d : Diacritic). option_map (λ letter. (d.mark, letter))
    (letter_of c.args.character d.letters.now)) (λ o. o) refl (λ y. refl)
    (λ x o q m. search rules)
    c.find_map.result c.iter.result.rest.now refl c.iter.ensures.runs c.find_map.ensures.runs in
    code_pair c.args.character c.find_map.result c.iter.result.rest.now found
    (ap (λ ds. same_table ds diacritics) c.iter.ensures.rest)
