use Rattle.std.proofs.Common.{◌≡◌, Bool, List, ap, ◌∙◌, subst}
use Rattle.charset.specs.Decoding.{ReadByLaws}
use Rattle.sets.specs.Iso6937.{iso6937}
use Rattle.layers.specs.Layers.{parity, shift, controls}
use Rattle.forms.specs.PageControls.{page_controls}
use Rattle.examples.proofs.demonstrations.read_with_parity.Goals as goal

pub returns : goal.returns
returns c =
    let chosen : c.with_parity-stack.result.below.chosen ≡ page_controls =
    ap (λ s. s.chosen) c.with_parity-stack.ensures.on ∙ c.with_controls.ensures.on.1 in
    subst (λ (given : List Bool). ReadByLaws (parity (controls given (shift iso6937)))
    c.args.bytes.now c.read_front.result) chosen c.read_front.ensures
