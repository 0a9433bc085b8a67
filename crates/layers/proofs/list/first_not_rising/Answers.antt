use Rattle.std.proofs.Common.{◌≡◌, true, false, rules}
use borrow.Author.Tests.{tests}
use Rattle.std.proofs.lemmas.Iterator.{first_from_Range}
use Rattle.layers.specs.CharacterList.{rises_at}
use Rattle.layers.proofs.list.first_not_rising.Goals as goal

pub returns : goal.returns
returns c =
    let xs = c.args.numbers.now in
    let first = first_from_Range _ _ _ c.find.result (λ i. rises_at xs i ≡ false)
    (λ i. rises_at xs i ≡ true) c.find.ensures.ran (λ i q k. search (rules, tests))
    (λ i q k. search (rules, tests)) in
    search rules
