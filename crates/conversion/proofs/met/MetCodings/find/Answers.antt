use Rattle.std.proofs.Common.{inl, inr, sym, ◌∙◌}
use Rattle.conversion.proofs.CodingsMet.{found_kept, found_next, two, three}
use Rattle.conversion.proofs.met.MetCodings.find.Goals as goal

pub returns : goal.returns
returns c S T right =
    let long = c.in-len2-up.len_at_least in
    found_next S T c.args.self.now right.1 c.args.input.now _ c.in-Some.coding 2
    (inl (found_kept c.args.self.now.pairs.kept _ _ _ (sym c.find.ensures ∙ c.in-Some.is))) long
    (two c.args.input.now long)

pub returns-2 : goal.returns-2
returns-2 c S T right =
    let long = c.in-len3-up.len_at_least in
    found_next S T c.args.self.now right.1 c.args.input.now _ c.in_ok-coding.coding 3
    (inr (found_kept c.args.self.now.triples.kept _ _ _
    (sym c.find-2.ensures ∙ c.in_ok-coding.was))) long (three c.args.input.now long)
