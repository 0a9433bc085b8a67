use Rattle.std.proofs.Common.{◌-◌, ◌++◌, length}
use Rattle.charset.specs.Sets.{set_of}
use Rattle.conversion.specs.Met.{Right}
use Rattle.conversion.specs.Runs.{Far}
use Rattle.conversion.proofs.two_sets.TwoSets.run.Given as goal

abbrev pub invariant-turns : goal.invariant-turns
invariant-turns g l =
    let s = set_of g.S.CharacterSet l.fn.self.source in
    let t = set_of g.T.CharacterSet l.fn.self.target in
    Right s t l.met × Far s t (l.held ++ l.sector) l.initial.output l.output l.run.characters
    l.run.read l.run.written

abbrev pub decreases-turns : goal.decreases-turns
decreases-turns g l = length (l.held ++ l.sector) - l.run.read
