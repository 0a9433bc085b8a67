-- Any stack of layers on any lawful set, and the whole law.
use Rattle.std.specs.Prelude.{ℕ, Bool, List, [], ◌∷◌}
use Rattle.charset.specs.Meaning.{Meaning, Laws}
use Rattle.layers.specs.Layers.{parity, shift, sub, controls}
use Rattle.layers.specs.Words.{ParityMeaning, ShiftMeaning, SubMeaning, ControlsMeaning}
use Rattle.transcript.specs.Law.{TranscriptionLaw}

pub data Layer : Type 0 where
  parity_layer shift_layer : Layer
  subrepertoire_of : (list : List ℕ) → Layer
  controls_of : (chosen : List Bool) → Layer

abbrev pub layered : Layer → Meaning → Meaning
layered parity_layer m = parity m
layered shift_layer m = shift m
layered (subrepertoire_of list) m = sub list m
layered (controls_of chosen) m = controls chosen m

-- the topmost layer first
abbrev pub stack : List Layer → Meaning → Meaning
stack [] m = m
stack (y ∷ ys) m = layered y (stack ys m)

-- the layer has the codings, openings and causes that its own words give it
abbrev pub Means : Layer → Meaning → Type 0
Means parity_layer m = ParityMeaning m
Means shift_layer m = ShiftMeaning m
Means (subrepertoire_of list) m = SubMeaning list m
Means (controls_of chosen) m = ControlsMeaning chosen m

-- any stack on a lawful set is a lawful set, each layer with the meaning that its words give it on
-- what lies below; and a transcript between any stack on one lawful set and any stack on another
-- keeps the law of transcription
pub record TheLaw : Type 0 where
  pub stacks : (ys : List Layer) (m : Meaning) → Laws m → Laws (stack ys m)
  pub layers : (y : Layer) (ys : List Layer) (m : Meaning) → Laws m → Means y (stack ys m)
  pub transcripts : (ys zs : List Layer) (S T : Meaning) → Laws S → Laws T
      → TranscriptionLaw (stack ys S) (stack zs T)
