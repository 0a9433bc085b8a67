-- Codings that were met.
use Rattle.std.proofs.Common.{◌≡◌, ℕ, ◌≤◌, ◌⊎◌, List, [], ◌∷◌, length}
use Rattle.std.proofs.Common.{take, Some, None, Ok, Option, option_and_then, slice_index_or}
use Rattle.std.proofs.Common.{slice_set, replicate, inl, inr, sym, refl, ap, ◌∙◌, arith}
use Rattle.std.proofs.lemmas.Bool.{cases_lt, cases_eq}
use Rattle.std.proofs.lemmas.List.{get_or-replicate, get_or_past, get_or-set_same, get_or-set_other}
use Rattle.std.proofs.lemmas.List.{length-set}
use Rattle.std.proofs.lemmas.Option.{cond_some, option_and_then_some, none-some, same_Some}
use Rattle.std.proofs.lemmas.Slice.Eq.{bytes_eq-Decides}
use Rattle.charset.specs.Meaning.{Meaning}
use Rattle.conversion.specs.declared.met.Met.{Met}
use Rattle.conversion.specs.declared.met.MetCodings.{MetCodings}
use Rattle.conversion.specs.Becomes.{becomes}
use Rattle.conversion.specs.Next.{ComesNext}
use Rattle.conversion.specs.Met.{if_this, found_in, kept_with, KeptIn, Kept, RightCodings}

-- what is found is kept
pub found_kept : {N : ℕ} (kept : List (Option (Met N))) (place : ℕ) (s v : List ℕ)
    → found_in kept place s ≡ Some v → KeptIn kept s v
found_kept {N} kept place s v e = go (slice_index_or kept place None) refl e
  where
    go : (o : Option (Met N)) → slice_index_or kept place None ≡ o → if_this s o ≡ Some v
        → KeptIn kept s v
    go None f g = absurd (none-some _ g)
    go (Some m) f g =
        let both = cond_some _ _ _ g in
        let bytes = (bytes_eq-Decides m.bytes s).0 both.0 in
        (place, f ∙ (λ i. Some (record { bytes = bytes i; coding = both.1 i })))

-- where nothing is kept, nothing is wrong
pub none_kept : {N : ℕ} (kept : List (Option (Met N))) → kept ≡ replicate 256 None
    → (s v : List ℕ) → KeptIn kept s v → ⊥
none_kept kept same s v k = elim (cases_lt k.0 256) [
  | inl h ↦ none-some _ (sym (get_or-replicate 256 k.0 None None h)
      ∙ ap (λ z. slice_index_or z k.0 None) (sym same) ∙ k.1)
  | inr h ↦ none-some _ (sym (get_or_past kept k.0 None (rw same h)) ∙ k.1)
]

pub one : (s : List ℕ) → 1 ≤ length s → take 1 s ≡ slice_index_or s 0 0 ∷ []
one [] h = absurd (omega (arith, h))
one (x ∷ s) h = refl

pub two : (s : List ℕ) → 2 ≤ length s
    → take 2 s ≡ slice_index_or s 0 0 ∷ slice_index_or s 1 0 ∷ []
two [] h = absurd (omega (arith, h))
two (x ∷ []) h = absurd (omega (arith, h))
two (x ∷ y ∷ s) h = refl

pub three : (s : List ℕ) → 3 ≤ length s
    → take 3 s ≡ slice_index_or s 0 0 ∷ slice_index_or s 1 0 ∷ slice_index_or s 2 0 ∷ []
three [] h = absurd (omega (arith, h))
three (x ∷ []) h = absurd (omega (arith, h))
three (x ∷ y ∷ []) h = absurd (omega (arith, h))
three (x ∷ y ∷ z ∷ s) h = refl

module _ (S T : Meaning) (m : MetCodings) (right : RightCodings S T m) where
  pub found_next : (input s v : List ℕ) (n : ℕ) → Kept m s v → n ≤ length input
      → take n input ≡ s → ComesNext S T input (Ok (Some (v, n)))
  found_next input s v n kept long front =
      option_and_then_some _ _ _ (right s v kept)
      (λ c f g. (c, (long, ap S.codings.character front ∙ f), g))

-- in a list with one element replaced stands what stood there, or the new one
set_gives : {X : Type 0} (l : List (Option X)) (i j : ℕ) (a q : X)
    → slice_index_or (slice_set l i (Some a)) j None ≡ Some q
    → (slice_index_or l j None ≡ Some q) ⊎ (a ≡ q)
set_gives l i j a q e = elim (cases_eq j i) [
  | inl same ↦ elim (cases_lt i (length l)) [
    | inl h ↦ inr
        (same_Some a q (sym (get_or-set_same l i (Some a) None h)
        ∙ ap (λ k. slice_index_or (slice_set l i (Some a)) k None) (sym same) ∙ e))
    | inr h ↦ absurd
        (none-some q (sym (get_or_past (slice_set l i (Some a)) j None (rw (length-set, same) h))
        ∙ e))
  ]
  | inr other ↦ inl (sym (get_or-set_other l i j (Some a) None other) ∙ e)
]

-- a coding that is kept besides becomes what the sets make of it, so all is right as before
pub right_besides : {N : ℕ} (S T : Meaning) (kept : List (Option (Met N))) (place : ℕ)
    (b w : List ℕ) → becomes S T b ≡ Some w
    → ((s v : List ℕ) → KeptIn kept s v → becomes S T s ≡ Some v)
    → (s v : List ℕ) → KeptIn (kept_with kept place b w) s v → becomes S T s ≡ Some v
right_besides S T kept place b w right before s v k = elim (set_gives kept place k.0 _ _ k.1) [
  | inl e ↦ before s v (k.0, e)
  | inr e ↦ ap (becomes S T) (sym (ap (λ m. m.bytes) e)) ∙ right ∙ ap (λ m. Some m.coding) e
]

-- what comes next is what the bytes of its coding become
pub next_becomes : (S T : Meaning) (input v : List ℕ) (n : ℕ)
    → ComesNext S T input (Ok (Some (v, n))) → becomes S T (take n input) ≡ Some v
next_becomes S T input v n h = ap (option_and_then T.codings.string) h.1.1 ∙ h.2
