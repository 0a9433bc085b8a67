use Rattle.std.proofs.Common.{refl, rules}
use Rattle.sets.specs.Columns.{is_character, upper_at}
use Rattle.sets.proofs.Searches.{first_of_numbers}
use Rattle.sets.proofs.columns.CodeTable.upper_of.Goals as goal

pub returns : goal.returns
returns c =
    first_of_numbers (λ b. is_character c.args.character (upper_at c.args.self.now.columns b)) 0xa0
    96 _ _ _ c.find.result c.find.ensures.ran (search rules) refl (λ x y q m. search rules)
    (λ x b q m. search rules)
