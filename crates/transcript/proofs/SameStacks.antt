-- Sets that differ in the causes of writing alone do so under every stack of layers.
use Rattle.std.proofs.Common.{◌≡◌, ℕ, Bool, false, List, [], ◌∷◌, take, sym, refl, ap}
use Rattle.std.proofs.Common.{◌∙◌}
use Rattle.charset.specs.Meaning.{Meaning}
use Rattle.charset.specs.Answers.{reading}
use Rattle.layers.specs.Layers.{added, control, sub, controls}
use Rattle.layers.specs.Recoding.{Recoding, below, recoded}
use Rattle.layers.specs.Layers.{parity_bytes, shift_bytes}
use Rattle.transcript.specs.Stacks.{Layer, parity_layer, shift_layer, subrepertoire_of, controls_of}
use Rattle.transcript.specs.Stacks.{layered, stack}
use Rattle.transcript.specs.SameBytes.{SameButForWriteCauses, SameUnderLayers}
use Rattle.transcript.proofs.SameBytes.{bare, same_bare}

-- reading does not ask for them
reading_bare : (m : Meaning) (s : List ℕ) → reading m s ≡ reading (bare m) s
unfolding reading
reading_bare m s = refl

added_bare : (chosen : List Bool) (m : Meaning) (c : ℕ)
    → added chosen m c ≡ added chosen (bare m) c
added_bare chosen m c = rw (reading_bare m (c ∷ [])) refl

control_bare : (chosen : List Bool) (m : Meaning) (s : List ℕ)
    → control chosen m s ≡ control chosen (bare m) s
control_bare chosen m [] = refl
control_bare chosen m (c ∷ []) = rw (added_bare chosen m c) refl
control_bare chosen m (c ∷ d ∷ s) = refl

recoded_bare : (r : Recoding) (m : Meaning)
    → SameButForWriteCauses (recoded r m) (recoded r (bare m))
recoded_bare r m = record { codings = refl; openings = refl; causes = (λ i s. same s i) }
  where
    same : (s : List ℕ) → (recoded r m).causes s ≡ (recoded r (bare m)).causes s
    same s = rw (reading_bare m (below r false (take 4 s))) refl

layer_bare : (y : Layer) (m : Meaning) → SameButForWriteCauses (layered y m) (layered y (bare m))
layer_bare parity_layer m = recoded_bare parity_bytes m
layer_bare shift_layer m = recoded_bare shift_bytes m
layer_bare (subrepertoire_of list) m =
    record { codings = refl; openings = refl; causes = (λ i s. same s i) }
  where
    same : (s : List ℕ) → (sub list m).causes s ≡ (sub list (bare m)).causes s
    same s = rw (reading_bare m s) refl
layer_bare (controls_of chosen) m = record {
  codings = (λ i. record { character = λ s. character s i; string = λ c. string c i });
  openings = refl;
  causes = refl;
}
  where
    character : (s : List ℕ) → (controls chosen m).codings.character s
        ≡ (controls chosen (bare m)).codings.character s
    character s = rw (control_bare chosen m s) refl

    string : (c : ℕ) → (controls chosen m).codings.string c
        ≡ (controls chosen (bare m)).codings.string c
    string c = rw (added_bare chosen m c) refl

layer_alike : (y : Layer) (m n : Meaning) → SameButForWriteCauses m n
    → SameButForWriteCauses (layered y m) (layered y n)
layer_alike y m n h =
    let a = layer_bare y m in
    let b = layer_bare y n in
    let e = ap (layered y) (same_bare h) in
    record {
      codings = a.codings ∙ ap (λ z. z.codings) e ∙ sym b.codings;
      openings = a.openings ∙ ap (λ z. z.openings) e ∙ sym b.openings;
      causes = a.causes ∙ ap (λ z. z.causes) e ∙ sym b.causes;
    }

pub same_under_layers : SameUnderLayers
same_under_layers [] m n h = h
same_under_layers (y ∷ ys) m n h =
    layer_alike y (stack ys m) (stack ys n) (same_under_layers ys m n h)
