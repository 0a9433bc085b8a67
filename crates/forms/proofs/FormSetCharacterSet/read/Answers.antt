use Rattle.std.proofs.Common.{sym, subst}
use Rattle.charset.specs.Answers.{Reads}
use Rattle.forms.specs.declared.FormSet.{FormSet}
use Rattle.forms.specs.Chosen.{meaning_of}
use Rattle.forms.proofs.FormSetCharacterSet.read.Goals as goal

pub returns-in-SevenBitParity : goal.returns-in-SevenBitParity
returns-in-SevenBitParity c =
    subst (λ (s : FormSet). Reads (meaning_of s) c.args.bytes.now c.read-in-SevenBitParity.result)
    (sym c.in-SevenBitParity.is) c.read-in-SevenBitParity.ensures

pub returns-in-SingleByte : goal.returns-in-SingleByte
returns-in-SingleByte c =
    subst (λ (s : FormSet). Reads (meaning_of s) c.args.bytes.now c.read-in-SingleByte.result)
    (sym c.in-SingleByte.is) c.read-in-SingleByte.ensures

pub returns-in-Basic : goal.returns-in-Basic
returns-in-Basic c =
    subst (λ (s : FormSet). Reads (meaning_of s) c.args.bytes.now c.read-in-Basic.result)
    (sym c.in-Basic.is) c.read-in-Basic.ensures
