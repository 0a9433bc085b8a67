-- Any stack of layers on a lawful set is lawful, and the whole law.
use Rattle.std.proofs.Common.{List, [], ◌∷◌}
use Rattle.charset.specs.Meaning.{Meaning, Laws}
use Rattle.layers.specs.Laws.LayersKeep.{parity_laws, shift_laws, sub_laws, controls_laws}
use Rattle.layers.proofs.Wording.{parity_meaning, shift_meaning}
use Rattle.layers.proofs.MoreWording.{sub_meaning, controls_meaning}
use Rattle.transcript.specs.Stacks.{Layer, parity_layer, shift_layer, subrepertoire_of, controls_of}
use Rattle.transcript.specs.Stacks.{layered, stack, Means, TheLaw}
use Rattle.transcript.proofs.Back.{transcription_law}

layered_laws : (y : Layer) {m : Meaning} → Laws m → Laws (layered y m)
layered_laws parity_layer l = parity_laws l
layered_laws shift_layer l = shift_laws l
layered_laws (subrepertoire_of list) l = sub_laws list l
layered_laws (controls_of chosen) l = controls_laws chosen l

pub stack_laws : (ys : List Layer) (m : Meaning) → Laws m → Laws (stack ys m)
stack_laws [] m l = l
stack_laws (y ∷ ys) m l = layered_laws y (stack_laws ys m l)

means : (y : Layer) (m : Meaning) → Laws m → Means y m
means parity_layer m l = parity_meaning m l
means shift_layer m l = shift_meaning m l
means (subrepertoire_of list) m l = sub_meaning list m l
means (controls_of chosen) m l = controls_meaning chosen m l

pub the_law : TheLaw
the_law = record {
  stacks = stack_laws;
  layers = λ y ys m l. means y (stack ys m) (stack_laws ys m l);
  transcripts =
      λ ys zs S T l k. transcription_law (stack ys S) (stack zs T) (stack_laws ys S l)
      (stack_laws zs T k);
}
