use Rattle.std.proofs.Common.{slice_index_or, subst}
use Rattle.charset.specs.Sets.{set_of}
use Rattle.conversion.specs.Met.{IsPlain}
use Rattle.conversion.proofs.Turns.{far_none, far_plain}
use Rattle.conversion.proofs.two_sets.TwoSets.copy_plain.Goals as goal

pub loop-count-init : goal.loop-count-init
loop-count-init g c =
    far_none (set_of g.S.CharacterSet c.args.self.now.source)
    (set_of g.T.CharacterSet c.args.self.now.target)
    (g.met.S.CharacterSet.lawful c.args.self.now.source) c.args.input.now c.args.output.now

pub loop-count-preserved : goal.loop-count-preserved
loop-count-preserved g c =
    let s = set_of g.S.CharacterSet c.args.self.now.source in let t =
    set_of g.T.CharacterSet c.args.self.now.target in
    far_plain s t (g.met.S.CharacterSet.lawful c.args.self.now.source) c.args.input.now
    c.args.output.now c.loop-count.output
    c.loop-count.count c.loop-count.count c.loop-count.count c.loop-count.invariant c.in-Some.byte
    c.loop-count-test.true c.if-count-output.true
    (subst (IsPlain s t (slice_index_or c.args.input.now c.loop-count.count 0))
    c.in-Some.is (c.single.ensures s t c.requires))
