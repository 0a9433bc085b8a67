use Rattle.std.proofs.Common.{◌≡◌, Err, rules}
use Rattle.layers.proofs.LayerReads.{sub_read, sub_answer}
use Rattle.layers.proofs.subrepertoire.SubrepertoireCharacterSet.read.Goals as goal

pub returns-in_err-reading : goal.returns-in_err-reading
returns-in_err-reading g c =
    let e : c.from_residual.result ≡ sub_read c.args.self.now.list c.read.result = search rules in
    sub_answer c.args.self.now.list (g.met.S.CharacterSet.lawful c.args.self.now.below) _ _ _
    c.read.ensures e

pub returns-in-Found : goal.returns-in-Found
returns-in-Found g c =
    let e : Err c.into.result ≡ sub_read c.args.self.now.list c.read.result = search rules in
    sub_answer c.args.self.now.list (g.met.S.CharacterSet.lawful c.args.self.now.below) _ _ _
    c.read.ensures e
