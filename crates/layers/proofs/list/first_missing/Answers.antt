use Rattle.std.proofs.Common.{◌≡◌, true, false, rules}
use borrow.Author.Tests.{tests}
use Rattle.std.proofs.lemmas.Iterator.{YieldsList-from_slice, first_from_find}
use Rattle.std.proofs.lemmas.Iterator.Consumers.{YieldsList-from_copied}
use Rattle.layers.specs.CharacterList.{required, on_list}
use Rattle.layers.proofs.Firsts.{first_missing}
use Rattle.layers.proofs.list.first_missing.Goals as goal

pub returns : goal.returns
unfolding required
returns c =
    let xs = c.args.numbers.now in
    first_missing xs c.find.result (first_from_find _ _ c.find.result (λ d. on_list xs d ≡ false)
    (λ d. on_list xs d ≡ true) c.find.ensures.ran
    (YieldsList-from_copied (YieldsList-from_slice required (cc)))
    (λ d q k. search (rules, tests)) (λ d q k. search (rules, tests)))
