use Rattle.std.proofs.Common.{◌≡◌, None, rules}
use borrow.Author.Tests.{tests}
use Rattle.std.proofs.lemmas.Iterator.{YieldsList-from_slice, first_from_find}
use Rattle.std.proofs.lemmas.Iterator.Consumers.{YieldsList-from_copied}
use Rattle.layers.proofs.Firsts.{first_uncoded}
use Rattle.layers.proofs.list.first_uncoded.Goals as goal

pub returns : goal.returns
returns g c =
    let k = g.S.CharacterSet.codings c.args.set.now in
    first_uncoded _ c.args.numbers.now c.requires c.find.result
    (first_from_find _ _ c.find.result (λ d. k.string d ≡ None) (λ d. k.string d ≡ None
    → ⊥)
    c.find.ensures.ran (YieldsList-from_copied (YieldsList-from_slice c.args.numbers.now (cc)))
    (λ d q h. search (rules, tests)) (λ d q h. search (rules, tests)))
