-- The subrepertoire and the controls in plain words.
use Rattle.std.proofs.Common.{◌≡◌, ℕ, Bool, true, false, ◌&&◌, ltb, ◌⊎◌, List}
use Rattle.std.proofs.Common.{[], ◌∷◌, get_or, is_err, is_none, Ok, Err, sym, refl, inl, inr}
use Rattle.std.proofs.Common.{cond, Some, None, Option}
use Rattle.std.proofs.lemmas.Bool.{and_parts, both_ways, lt-ltb, false_from_ne_true, cond_both}
use Rattle.std.proofs.lemmas.Option.{none-some}
use Rattle.charset.specs.declared.Reading.TheVariants.{Found, Open}
use Rattle.charset.specs.Meaning.{Meaning, Unreadable, HasNoCoding, Laws}
use Rattle.charset.specs.Answers.{ReadAnswer, Reads, reading}
use Rattle.charset.proofs.FrontLemmas.{reading_is, reading_bad, reading_reads}
use Rattle.layers.specs.CharacterList.{on_list}
use Rattle.layers.specs.Layers.{added, sub}
use Rattle.layers.specs.Words.{IsUnlisted, SubMeaning, Added, ControlsMeaning}
use Rattle.layers.specs.Laws.LayersKeep.{kept_parts, control_parts, added_parts, from_below}
use Rattle.layers.specs.Laws.LayersKeep.{bad_below, unwritten_below, new}

pub sub_meaning : (ds : List ℕ) (m : Meaning) → Laws m → SubMeaning ds m
sub_meaning ds m l = record {
  codes = λ s c p. let h = kept_parts ds l s c p in (h.1, h.0);
  coded_by = λ s c p e. rw (p, e) refl;
  opens = λ s. refl;
  not_listed = λ s c n h e. rw (reading_is l s (Ok (Found c n)) h) refl;
  cause_below = λ s h. rw (reading_bad l s h) refl;
  causes_only = λ s u. go s u (reading m s) (reading_reads l s);
  unwritten_below = λ c e. (
    cond_both (on_list ds c) _ _ (λ o. o ≡ None) (λ _. e) (λ _. refl),
    rw e refl,
  );
  unlisted = λ c h. let e = l.read h.0 c h.1 in (rw h.2 refl, rw e refl);
  write_causes_only = λ c h. uncoded c (on_list ds c) refl (m.codings.string c) refl h;
}
  where
    uncoded : (c : ℕ) (b : Bool) → on_list ds c ≡ b → (o : Option (List ℕ))
        → m.codings.string c ≡ o → cond b o None ≡ None
        → HasNoCoding m c ⊎ IsUnlisted ds m c
    uncoded c b f None e h = inl e
    uncoded c true f (Some s) e h = absurd (none-some s (sym h))
    uncoded c false f (Some s) e h = inr (s, l.written c s e, f)

    go : (s : List ℕ) → Unreadable (sub ds m) s → (r : ReadAnswer) → Reads m s r
        → Unreadable m s
        ⊎ ((c n : ℕ) × Reads m s (Ok (Found c n)) × (on_list ds c ≡ false))
    go s u (Ok (Found c n)) h =
        inr (c, n, h, false_from_ne_true _ (λ e. u.0 n c (rw (h.1, e) refl)))
    go s u (Ok Open) h = absurd (both_ways _ u.1 h)
    go s u (Err q) h = inl h.0

pub added_words : (chosen : List Bool) (m : Meaning) → Laws m → (c : ℕ)
    → added chosen m c ≡ true → Added chosen m c
added_words chosen m l c e =
    let h = added_parts chosen l c e in
    let first = (and_parts (ltb c 0x20 && get_or chosen c false)
    (is_err (reading m (c ∷ [])) && is_none (m.codings.string c)) e).0 in
    record {
      control = h.0;
      choice = (and_parts (ltb c 0x20) (get_or chosen c false) first).1;
      unread = h.1;
      unwritten = h.2;
    }

pub words_added : (chosen : List Bool) (m : Meaning) → Laws m → (c : ℕ) → Added chosen m c
    → added chosen m c ≡ true
words_added chosen m l c h =
    rw (lt-ltb c 0x20 h.control, h.choice, reading_bad l (c ∷ []) h.unread, h.unwritten) refl

pub controls_meaning : (chosen : List Bool) (m : Meaning) → Laws m → ControlsMeaning chosen m
controls_meaning chosen m l = record {
  codes =
      λ s c p. elim (control_parts chosen l s c p)
      [ inl h ↦ inl h | inr h ↦ inr (h.0, added_words chosen m l c h.1) ];
  coded_by = λ s c p. from_below chosen l s c p;
  control_coded = λ c h. new chosen l c (words_added chosen m l c h);
  opens = λ s. refl;
  cause_below = λ s. refl;
  causes_only = bad_below chosen l;
  unwritten_below = λ c e none. (uncoded c (added chosen m c) refl e none, refl);
  write_causes_only = λ c h. (
    unwritten_below chosen l c h,
    λ a. none-some (c ∷ [])
        (sym (rw (words_added chosen m l c a) at h)),
  );
}
  where
    uncoded : (c : ℕ) (b : Bool) → added chosen m c ≡ b → HasNoCoding m c
        → (Added chosen m c → ⊥) → cond b (Some (c ∷ [])) (m.codings.string c) ≡ None
    uncoded c true f e none = absurd (none (added_words chosen m l c f))
    uncoded c false f e none = e
