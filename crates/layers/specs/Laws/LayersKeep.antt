-- Each layer over a lawful set is a lawful set.
use Rattle.std.specs.Prelude.{◌≡◌, ℕ, ◌+◌, ◌*◌, ◌%◌, ◌^◌, ◌<◌, Bool}
use Rattle.std.specs.Prelude.{true, false, cond, ◌⊎◌, List, [], ◌∷◌, length, take, Some}
use Rattle.std.specs.Prelude.{None, Ok, Err, Option, is_err, refl}
use Rattle.std.proofs.Common.{sym, ap, ◌∙◌, inl, inr, arith, lit<, lit≤}
use Rattle.std.proofs.lemmas.Option.{none-some}
use Rattle.std.specs.Int.Count.{ones}
use Rattle.std.specs.Option.{option_or}
use Rattle.std.proofs.lemmas.Nat.{ones_cat}
use Rattle.std.proofs.lemmas.Bool.{cases_lt, both_ways, and_parts, ltb-true}
use Rattle.std.proofs.lemmas.Bool.Decides.{nat_tests}
use Rattle.charset.specs.declared.Reading.TheVariants.{Found, Open}
use Rattle.charset.specs.Meaning.{Meaning, Codes, IsOpening, NoFront, Unreadable, HasNoCoding}
use Rattle.charset.specs.Meaning.{Laws}
use Rattle.charset.specs.Answers.{ReadAnswer, Reads, reading, writing}
use Rattle.layers.specs.declared.recoding.moves.Move.TheVariants.{Emit}
use Rattle.layers.specs.declared.recoding.moves.WrittenByte.TheVariants.{One}
use Rattle.layers.specs.Depth.{own, up, over}
use Rattle.layers.specs.CharacterList.{on_list}
use Rattle.layers.specs.Layers.{parity_step, parity_form, parity_bytes, parity, shift_bytes, shift}
use Rattle.layers.specs.Layers.{kept, sub, added, control, controls}
use Rattle.charset.proofs.FrontLemmas.{reading_reads, reading_is, alone, no_value, answer_grows}
use Rattle.layers.specs.Recoding.{Agrees}
use Rattle.layers.specs.Laws.Recode.{recoded_laws, over_small, reads_small, writes_small}

pub shift_agrees : Agrees shift_bytes
shift_agrees = record {
  one_step = λ b x e. grind (arith, nat_tests);
  two_steps = λ b x y e. (grind (arith, nat_tests), grind (arith, nat_tests));
  step_one = λ b x e. grind (arith, nat_tests);
  step_two = λ b x y e f. grind (arith, nat_tests);
  no_third = λ x e. grind (arith, nat_tests);
  first_byte = λ p x b e. grind (arith, nat_tests);
  held_byte = λ x e. grind (arith, nat_tests);
  small_fault = lit< tt;
}

pub shift_laws : {m : Meaning} → Laws m → Laws (shift m)
shift_laws {m} l = recoded_laws shift_bytes m shift_agrees l

seal : (b : ℕ) → b < 128 → ones (b + 128) ≡ ones b + 1
unfolding ones
seal b h =
    ap ones (let e : b + 128 ≡ 1 * 2 ^ 7 + b = omega arith in e) ∙ ones_cat 7 1 b h
    ∙ (let e : ones 1 + ones b ≡ ones b + 1 = omega arith in e)

-- the top bit of a byte
top_bit : (x : ℕ) → x < 256 → (x ≡ x % 128) ⊎ (x ≡ x % 128 + 128)
top_bit x h = elim (cases_lt x 128) [ inl g ↦ inl (omega arith) | inr g ↦ inr (omega arith) ]

parity_one : (b x : ℕ) → parity_form b ≡ Some (One x)
    → parity_step false x ≡ Some (Emit b)
parity_one b x e =
    elim (cases_lt b 128) [
      | inl g ↦ let k = seal b g in
          grind (arith, nat_tests)
      | inr g ↦ grind (arith, nat_tests)
    ]

parity_back : (b x : ℕ) → parity_step false x ≡ Some (Emit b)
    → parity_form b ≡ Some (One x)
parity_back b x e =
    let h : x < 256 = grind (arith, nat_tests) in
    let k : x % 128 ≡ b = grind (arith, nat_tests) in
    let even : ones x % 2 ≡ 0 = grind (arith, nat_tests) in
    let small : b < 128 = omega arith in
    elim (top_bit x h) [
      | inl g ↦ let y : x ≡ b = omega arith in low b x small y (rw y at even)
      | inr g ↦ let y : x ≡ b + 128 = omega arith in high b x small y (rw y at even)
    ]
  where
    low : (b x : ℕ) → b < 128 → x ≡ b → ones b % 2 ≡ 0
        → parity_form b ≡ Some (One x)
    low b x h e k = grind (arith, nat_tests)

    high : (b x : ℕ) → b < 128 → x ≡ b + 128 → ones (b + 128) % 2 ≡ 0
        → parity_form b ≡ Some (One x)
    high b x h e k =
        let s = seal b h in let odd : ones b % 2 ≡ 1 = omega arith in grind (arith, nat_tests)

pub parity_agrees : Agrees parity_bytes
parity_agrees = record {
  one_step = parity_one;
  two_steps = λ b x y e. (grind (arith, nat_tests), grind (arith, nat_tests));
  step_one = parity_back;
  step_two = λ b x y e f. grind (arith, nat_tests);
  no_third = λ x e. grind (arith, nat_tests);
  first_byte = λ p x b e. grind (arith, nat_tests);
  held_byte = λ x e. grind (arith, nat_tests);
  small_fault = lit< tt;
}

pub parity_laws : {m : Meaning} → Laws m → Laws (parity m)
parity_laws {m} l = recoded_laws parity_bytes m parity_agrees l

-- Subrepertoire
module _ (ds : List ℕ) {m : Meaning} (l : Laws m) where
  pub kept_parts : (s : List ℕ) (c : ℕ) → Codes (sub ds m) s c
      → (on_list ds c ≡ true) × Codes m s c
  kept_parts s c p = go (m.codings.character s) refl p
    where
      go : (o : Option ℕ) → m.codings.character s ≡ o → kept ds o ≡ Some c
          → (on_list ds c ≡ true) × Codes m s c
      go None e p = cc
      go (Some d) e p = last (on_list ds d) refl p
        where
          last : (b : Bool) → on_list ds d ≡ b → cond b (Some d) None ≡ Some c
              → (on_list ds c ≡ true) × Codes m s c
          last true f p = let same : d ≡ c = cc in rw (← same) (f, e)
          last false f p = cc

  pub sub_laws : Laws (sub ds m)
  sub_laws = record {
    written = λ c s p. go c s (on_list ds c) refl p;
    read = λ s c p. let h = kept_parts s c p in rw h.0 (l.read s c h.1);
    sized = λ s c p. l.sized s c (kept_parts s c p).1;
    bytes = λ s c p. l.bytes s c (kept_parts s c p).1;
    characters = λ s c p. l.characters s c (kept_parts s c p).1;
    empty_opens = l.empty_opens;
    opening_sized = l.opening_sized;
    opening_bytes = l.opening_bytes;
    coding_alone =
        λ s c d n p q. l.coding_alone s c d n (kept_parts s c p).1 (kept_parts (take n s) d q).1;
    coding_begins = λ s c n p. l.coding_begins s c n (kept_parts s c p).1;
    opening_begins = l.opening_begins;
    opening_bare = λ s o n c p. l.opening_bare s o n c (kept_parts (take n s) c p).1;
    cause_sized = λ s h. over_small (reading m s) (own 37) (reads_small l s) (lit< tt, lit< tt);
    cause_stays = λ s n h.
        let r = reading m (take n s) in
        let f = reading_reads l (take n s) in
        ap (λ z. over z (own 37))
        (reading_is l s r (answer_grows l s n r (λ e. both_ways _ h.1 (rw e at f)) f));
    write_cause_sized = λ c h. over_small (writing m c) (own 37) (writes_small l c)
        (lit< tt, lit< tt);
  }
    where
      go : (c : ℕ) (s : List ℕ) (b : Bool) → on_list ds c ≡ b
          → cond b (m.codings.string c) None ≡ Some s
          → kept ds (m.codings.character s) ≡ Some c
      go c s true e p = rw (l.written c s p, e)
      go c s false e p = cc

-- Controls
module _ (cs : List Bool) {m : Meaning} (l : Laws m) where
  pub control_parts : (s : List ℕ) (c : ℕ) → Codes (controls cs m) s c
      → Codes m s c ⊎ ((s ≡ c ∷ []) × (added cs m c ≡ true))
  control_parts s c p = go (m.codings.character s) refl s refl p
    where
      go : (o : Option ℕ) → m.codings.character s ≡ o → (t : List ℕ) → s ≡ t
          → option_or o (control cs m t) ≡ Some c
          → Codes m s c ⊎ ((s ≡ c ∷ []) × (added cs m c ≡ true))
      go (Some d) e t h p = inl (e ∙ p)
      go None e [] h p = cc
      go None e (x ∷ []) h p = last (added cs m x) refl p
        where
          last : (b : Bool) → added cs m x ≡ b → cond b (Some x) None ≡ Some c
              → Codes m s c ⊎ ((s ≡ c ∷ []) × (added cs m c ≡ true))
          last true f p = let same : x ≡ c = cc in inr (rw same at h, rw same at f)
          last false f p = cc
      go None e (x ∷ y ∷ t) h p = cc

  -- what was added is bad below, small, and has no coding below
  pub added_parts : (c : ℕ) → added cs m c ≡ true
      → (c < 0x20) × Unreadable m (c ∷ []) × (m.codings.string c ≡ None)
  added_parts c p =
      let h = and_parts _ _ p in
      let g = and_parts _ _ h.1 in (
        ltb-true _ _ (and_parts _ _ h.0).0,
        refusing (reading m (c ∷ [])) (reading_reads l (c ∷ [])) g.0,
        no_value (m.codings.string c) g.1,
      )
    where
      refusing : (r : ReadAnswer) → Reads m (c ∷ []) r → is_err r ≡ true
          → Unreadable m (c ∷ [])
      refusing (Ok (Found d n)) h e = absurd (both_ways false refl e)
      refusing (Ok Open) h e = absurd (both_ways false refl e)
      refusing (Err q) h e = h.0

  pub from_below : (s : List ℕ) (c : ℕ) → Codes m s c → Codes (controls cs m) s c
  from_below s c p = rw p

  pub bad_below : (s : List ℕ) → Unreadable (controls cs m) s → Unreadable m s
  bad_below s h = (λ n c p. h.0 n c (from_below (take n s) c p), h.1)

  pub unwritten_below : (c : ℕ) → HasNoCoding (controls cs m) c → HasNoCoding m c
  unwritten_below c h = go (added cs m c) h
    where
      go : (b : Bool) → cond b (Some (c ∷ [])) (m.codings.string c) ≡ None → HasNoCoding m c
      go true e = absurd (none-some _ (sym e))
      go false e = e

  pub new : (c : ℕ) → added cs m c ≡ true → Codes (controls cs m) (c ∷ []) c
  new c h = go (m.codings.character (c ∷ [])) refl
    where
      go : (o : Option ℕ) → m.codings.character (c ∷ []) ≡ o
          → option_or o (cond (added cs m c) (Some c) None) ≡ Some c
      go None e = rw h
      go (Some d) e = absurd ((added_parts c h).1.0 1 d e)

  begins_open : (s : List ℕ) (c n : ℕ) → Codes (controls cs m) s c → n < length s
      → IsOpening m (take n s)
  begins_open s c n p g = elim (control_parts s c p) [
    | inl h ↦ l.coding_begins s c n h g
    | inr h ↦ let n_is : n ≡ 0 = omega (arith, ap length h.0) in rw n_is l.empty_opens
  ]

  open_bare : (s : List ℕ) → IsOpening m s → NoFront (controls cs m) s
  open_bare s o n c p = elim (control_parts (take n s) c p) [
    | inl h ↦ l.opening_bare s o n c h
    | inr h ↦ both_ways _ (added_parts c h.1).1.1 (rw h.0 at (l.opening_begins s n o))
  ]

  pub controls_laws : Laws (controls cs m)
  controls_laws = record {
    written = λ c s p. written' c s (added cs m c) refl p;
    read =
        λ s c p. elim (control_parts s c p)
        [ inl h ↦ old s c h (added cs m c) refl | inr h ↦ rw (h.1, h.0) refl ];
    sized =
        λ s c p. elim (control_parts s c p)
        [ inl h ↦ l.sized s c h | inr h ↦ rw h.0 (lit< tt, lit≤ tt) ];
    bytes =
        λ s c p. elim (control_parts s c p)
        [ inl h ↦ l.bytes s c h | inr h ↦ rw h.0 (omega (arith, (added_parts c h.1).0), tt) ];
    characters =
        λ s c p. elim (control_parts s c p)
        [ inl h ↦ l.characters s c h | inr h ↦ omega (arith, (added_parts c h.1).0) ];
    empty_opens = l.empty_opens;
    opening_sized = l.opening_sized;
    opening_bytes = l.opening_bytes;
    coding_alone = alone (controls cs m) begins_open open_bare;
    coding_begins = begins_open;
    opening_begins = l.opening_begins;
    opening_bare = open_bare;
    cause_sized = λ s h. ((l.cause_sized s (bad_below s h)).0, omega arith);
    cause_stays = λ s n h. ap up (l.cause_stays s n (bad_below (take n s) h));
    write_cause_sized = λ c h. ((l.write_cause_sized c (unwritten_below c h)).0, omega arith);
  }
    where
      written' : (c : ℕ) (s : List ℕ) (b : Bool) → added cs m c ≡ b
          → cond b (Some (c ∷ [])) (m.codings.string c) ≡ Some s → Codes (controls cs m) s c
      written' c s true e p = let same : c ∷ [] ≡ s = cc in rw (← same) (new c e)
      written' c s false e p = from_below s c (l.written c s p)

      old : (s : List ℕ) (c : ℕ) → Codes m s c → (b : Bool) → added cs m c ≡ b
          → cond b (Some (c ∷ [])) (m.codings.string c) ≡ Some s
      old s c h true e = let none = (added_parts c e).2 in let some = l.read s c h in cc
      old s c h false e = l.read s c h
