use Rattle.std.proofs.Common.{rules}
use Rattle.charset.specs.Sets.{set_of}
use Rattle.transcript.specs.Snapshots.{snapshot}
use Rattle.transcript.proofs.Counting.{possible, offered_open}
use Rattle.transcript.proofs.calls.Transcript.feed.Goals as goal

pub settle-requires : goal.settle-requires
settle-requires g c =
    let m = c.args.self.now in
    let s = g.S.CharacterSet in let x = m.converter.sets.source in
    let t = g.T.CharacterSet in let y = m.converter.sets.target in
    possible (set_of s x) (set_of t y) (g.met.S.CharacterSet.lawful x)
    (g.met.T.CharacterSet.lawful y)
    (snapshot m.progress) c.args.sector.now c.args.output.now c.convert-end.new.output
    c.convert-end.new.run c.convert-end.result c.convert-end.ensures.runs
    c.in_ok-within_limits.ensures

pub returns : goal.returns
returns g c =
    let m = c.args.self.now in
    let s = g.S.CharacterSet in let x = m.converter.sets.source in
    let t = g.T.CharacterSet in let y = m.converter.sets.target in
    record {
      same_sets = search rules;
      offered =
          offered_open (set_of s x) (set_of t y) (g.met.S.CharacterSet.lawful x)
          (g.met.T.CharacterSet.lawful y)
          (snapshot m.progress) c.args.sector.now c.args.output.now c.convert-end.new.output
          c.convert-end.new.run c.convert-end.result c.convert-end.ensures.runs
          c.in_ok-within_limits.ensures
          c.settle.result (snapshot c.settle.new.self) c.settle.ensures;
    }
