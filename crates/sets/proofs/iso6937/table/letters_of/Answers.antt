use Rattle.std.proofs.Common.{◌==◌, refl, ap, rules}
use Rattle.std.specs.Option.{option_map}
use Rattle.sets.specs.Search.{when}
use Rattle.sets.specs.declared.iso6937.table.Diacritic.{Diacritic}
use Rattle.sets.specs.Iso6937Table.{diacritics}
use Rattle.sets.proofs.Searches.{first_answer}
use Rattle.sets.proofs.TableOrder.{same_table, code_letters}
use Rattle.sets.proofs.iso6937.table.letters_of.Goals as goal

pub returns : goal.returns
unfolding diacritics
returns c =
    let found = first_answer _ (λ (d : Diacritic). when (d.mark == c.args.mark) d.letters.now)
    (option_map (λ x. x.now)) refl (λ y. refl) (λ x o q m. search rules) c.find_map.result
    c.iter.result.rest.now refl c.iter.ensures.runs c.find_map.ensures.runs in
    let same = code_letters (λ x. x.now) c.args.mark c.find_map.result c.iter.result.rest.now found
    (ap (λ ds. same_table ds diacritics) c.iter.ensures.rest) in
    record { diacritics = same.0; pairs = same.1 }
