-- Bytes that stand alone in two sets.
use Rattle.std.proofs.Common.{◌≡◌, ℕ, replicate, ◌<◌, List, [], ◌∷◌, Some, None}
use Rattle.std.proofs.Common.{Option, slice_index_or, sym, ap, ◌∙◌}
use Rattle.std.proofs.lemmas.List.{get_or-replicate}
use Rattle.std.proofs.lemmas.Option.{none-some, option_and_then_some, same_Some}
use Rattle.charset.specs.Meaning.{Meaning, Codes}
use Rattle.conversion.specs.Becomes.{becomes}
use Rattle.conversion.specs.Plain.{only_byte, plain_byte}

-- where nothing is known of any byte, nothing is wrong
pub none_known : (S T : Meaning) → (b t : ℕ) → b < 256
    → slice_index_or (replicate 256 None) b None ≡ Some t → plain_byte S T b ≡ Some t
none_known S T b t h e = absurd (none-some _ (sym (get_or-replicate 256 b None None h) ∙ e))

-- the character of a byte that stands alone in both sets
only_parts : (o : Option (List ℕ)) (t : ℕ) → only_byte o ≡ Some t → o ≡ Some (t ∷ [])
only_parts None t e = absurd (none-some _ e)
only_parts (Some []) t e = absurd (none-some _ e)
only_parts (Some (u ∷ [])) t e = ap (λ x. Some (x ∷ [])) (same_Some _ _ e)
only_parts (Some (u ∷ x ∷ s)) t e = absurd (none-some _ e)

pub plain_parts : (S T : Meaning) (b t : ℕ) → plain_byte S T b ≡ Some t
    → (c : ℕ) × Codes S (b ∷ []) c × (T.codings.string c ≡ Some (t ∷ []))
plain_parts S T b t e =
    option_and_then_some _ _ _ (only_parts (becomes S T (b ∷ [])) t e) (λ c f g. (c, f, g))
