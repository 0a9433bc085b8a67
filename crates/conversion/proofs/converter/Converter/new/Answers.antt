use Rattle.charset.specs.Sets.{set_of}
use Rattle.conversion.proofs.converter.Converter.new.Goals as goal

pub invariant_of-result : goal.invariant_of-result
invariant_of-result g c =
    record {
      right = c.empty.ensures (set_of g.S.CharacterSet c.args.source)
          (set_of g.T.CharacterSet c.args.target);
    }
