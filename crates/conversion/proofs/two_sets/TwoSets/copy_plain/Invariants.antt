use Rattle.std.proofs.Common.{length, ◌-◌}
use Rattle.charset.specs.Sets.{set_of}
use Rattle.conversion.specs.Runs.{ByteForByte}
use Rattle.conversion.proofs.two_sets.TwoSets.copy_plain.Given as goal

abbrev pub invariant-loop-count : goal.invariant-loop-count
invariant-loop-count g l =
    ByteForByte (set_of g.S.CharacterSet l.fn.self.source)
    (set_of g.T.CharacterSet l.fn.self.target) l.fn.input l.fn.output l.output l.count

abbrev pub decreases-loop-count : goal.decreases-loop-count
decreases-loop-count g l = length l.input - l.count
