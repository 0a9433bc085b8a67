use Rattle.std.proofs.Common.{rules, ◌≡◌, Ok}
use Rattle.charset.specs.Sets.{set_of}
use Rattle.charset.specs.declared.Reading.TheVariants.{Found}
use Rattle.layers.proofs.LayerReads.{control_read, control_answer}
use Rattle.layers.proofs.controls.ControlsCharacterSet.read.Goals as goal

pub returns-in-Err-len1-up : goal.returns-in-Err-len1-up
returns-in-Err-len1-up g c =
    let e : Ok (Found c.from.result 1) ≡ control_read c.args.self.now.chosen
    (set_of g.S.CharacterSet c.args.self.now.below) c.args.bytes.now c.read.result =
    search rules in
    control_answer c.args.self.now.chosen (g.met.S.CharacterSet.lawful c.args.self.now.below) _ _ _
    c.read.ensures e

pub returns-in_default : goal.returns-in_default
returns-in_default g c =
    let e : c.map_err.result ≡ control_read c.args.self.now.chosen
    (set_of g.S.CharacterSet c.args.self.now.below) c.args.bytes.now c.read.result =
    search rules in
    control_answer c.args.self.now.chosen (g.met.S.CharacterSet.lawful c.args.self.now.below) _ _ _
    c.read.ensures e
