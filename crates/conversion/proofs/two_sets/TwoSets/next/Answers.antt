use Rattle.std.proofs.Common.{Ok, ap, subst, ◌∙◌}
use Rattle.charset.specs.Sets.{set_of}
use Rattle.conversion.specs.Next.{ComesNext}
use Rattle.conversion.proofs.CodingsMet.{next_becomes}
use Rattle.conversion.proofs.two_sets.TwoSets.next.Goals as goal

pub returns-clause-right : goal.returns-clause-right
returns-clause-right g c =
    let s = set_of g.S.CharacterSet c.args.self.now.source in
    let t = set_of g.T.CharacterSet c.args.self.now.target in
    c.keep.ensures s t c.requires
    (next_becomes s t c.args.input.now c.in-Some-2.found.0 c.in-Some-2.found.1
    (subst (ComesNext s t c.args.input.now) (c.in_ok-found.was ∙ ap Ok c.in-Some-2.is)
    c.next_coding.ensures))
