use Rattle.std.proofs.Common.{is_err, ap, sym, ◌∙◌}
use Rattle.charset.proofs.FrontLemmas.{reading_is}
use Rattle.layers.proofs.controls.Controls.is_refused_below.Goals as goal

pub returns : goal.returns
returns g c =
    let same = reading_is (g.met.S.CharacterSet.lawful c.args.self.now.below) _ c.read.result
    c.read.ensures in
    c.is_err.ensures.value ∙ ap is_err (sym same)
