-- Table 4 is one to one, by tests over the whole of it that antt computes.
use Rattle.std.specs.Prelude.{◌≡◌, ℕ, ◌<◌, Bool, true, ◌&&◌, List, [], ◌∷◌}
use Rattle.std.specs.Prelude.{Some, None, Option, ◌==◌, nat_lt, refl}
use Rattle.std.proofs.Common.{ap, ◌∙◌}
use Rattle.std.proofs.Math.Path.{subst₃}
use Rattle.std.specs.Option.{option_map, is_none}
use Rattle.std.proofs.lemmas.Bool.{and_parts, ltb-true}
use Rattle.std.proofs.lemmas.Option.{same_Some}
use Rattle.charset.proofs.FrontLemmas.{no_value}
use Rattle.sets.specs.Search.{when, first_from}
use Rattle.sets.specs.Columns.{is_character, one_to_one}
use Rattle.sets.specs.Iso6937Table.{supplementary, diacritics}
use Rattle.sets.specs.Iso6937.{single, letters_of, by_letter, by_character, letter_of, among, pair}
use Rattle.sets.specs.Iso6937.{pair_of, iso6937_string}
use Rattle.sets.specs.Laws.Columns.{is_this, placed, all_low, low_at}
use Rattle.sets.specs.Laws.Search.{when_some, every, found_passes, is_string, is_string_true}

-- the supplementary set: no character twice, and none beyond the surrogates
one_place : one_to_one supplementary ≡ true
unfolding one_to_one supplementary first_from
one_place = refl

supplementary_low : all_low supplementary ≡ true
unfolding supplementary
supplementary_low = refl

-- the pairs: a pair's character is coded by the pair, the pair codes it, and a diacritic codes
-- nothing alone
abbrev letter_test : ℕ → ℕ × ℕ → Bool
letter_test mark p =
    (is_string (mark ∷ p.0 ∷ []) (iso6937_string p.1) && is_character p.1 (pair mark p.0)) &&
    (nat_lt p.0 256 && nat_lt p.1 0xd800)

diacritic_test : ℕ × List (ℕ × ℕ) → Bool
diacritic_test d = (nat_lt d.0 256 && is_none (single d.0)) && every (letter_test d.0) d.1

diacritics_tested : every diacritic_test diacritics ≡ true
unfolding diacritic_test supplementary diacritics first_from
diacritics_tested = refl

-- a byte, and the character that it codes alone
pub record Single (b c : ℕ) : Type 0 where
  pub byte : b < 256
  pub coded : iso6937_string c ≡ Some (b ∷ [])
  pub low : c < 0xd800

pub single_at : (b c : ℕ) → single b ≡ Some c → Single b c
single_at b c e =
    let p = placed supplementary one_place b c e in
    record {
      byte = p.byte;
      coded = rw p.back refl;
      low =
          low_at supplementary supplementary_low b c e;
    }

-- a diacritic and a letter, and the character that they code
pub record Accented (mark letter c : ℕ) : Type 0 where
  pub mark_byte : mark < 256
  pub letter_byte : letter < 256
  pub stands : pair mark letter ≡ Some c
  pub coded : iso6937_string c ≡ Some (mark ∷ letter ∷ [])
  pub low : c < 0xd800

-- what the test tells of a diacritic
record Tested (d : ℕ × List (ℕ × ℕ)) : Type 0 where
  mark_byte : d.0 < 256
  alone : single d.0 ≡ None
  letters : every (letter_test d.0) d.1 ≡ true

tested : (d : ℕ × List (ℕ × ℕ)) → diacritic_test d ≡ true → Tested d
unfolding diacritic_test
tested d t =
    let a = and_parts (nat_lt d.0 256 && is_none (single d.0)) (every (letter_test d.0) d.1) t in
    let b = and_parts (nat_lt d.0 256) (is_none (single d.0)) a.0 in
    record { mark_byte = ltb-true d.0 256 b.0; alone = no_value (single d.0) b.1; letters = a.1 }

accented_entry : (d : ℕ × List (ℕ × ℕ)) (p : ℕ × ℕ) → Tested d
    → letter_test d.0 p ≡ true → Accented d.0 p.0 p.1
accented_entry d p t u =
    let e = and_parts (is_string (d.0 ∷ p.0 ∷ []) (iso6937_string p.1) && is_character p.1
    (pair d.0 p.0)) (nat_lt p.0 256 && nat_lt p.1 0xd800) u in
    let f = and_parts (is_string (d.0 ∷ p.0 ∷ []) (iso6937_string p.1))
    (is_character p.1 (pair d.0 p.0)) e.0 in
    let g = and_parts (nat_lt p.0 256) (nat_lt p.1 0xd800) e.1 in
    record {
      mark_byte = t.mark_byte;
      letter_byte = ltb-true p.0 256 g.0;
      stands = is_this p.1 (pair d.0 p.0) f.1;
      coded = is_string_true (d.0 ∷ p.0 ∷ []) (iso6937_string p.1) f.0;
      low = ltb-true p.1 0xd800 g.1;
    }

-- the diacritic whose letters these are
marked : (mark : ℕ) (ps : List (ℕ × ℕ)) → letters_of mark ≡ Some ps
    → (d : ℕ × List (ℕ × ℕ)) × Tested d × (d.0 ≡ mark) × (d.1 ≡ ps)
marked mark ps e =
    let h = found_passes diacritic_test (λ d. when (d.0 == mark) d.1) diacritics ps
    diacritics_tested e in
    let same = when_some h.0.0 mark h.0.1 ps h.2 in
    (h.0, tested h.0 h.1, same.0, same.1)

pub mark_alone : (mark : ℕ) (ps : List (ℕ × ℕ)) → letters_of mark ≡ Some ps
    → (mark < 256) × (single mark ≡ None)
mark_alone mark ps e =
    let h = marked mark ps e in (rw (← h.2) h.1.mark_byte, rw (← h.2) h.1.alone)

pub accented_at : (mark letter c : ℕ) → pair mark letter ≡ Some c → Accented mark letter c
accented_at mark letter c e = go (letters_of mark) refl e
  where
    go : (o : Option (List (ℕ × ℕ))) → letters_of mark ≡ o → among letter o ≡ Some c
        → Accented mark letter c
    go None f g = cc
    go (Some ps) f g =
        let h = marked mark ps f in
        let d = h.0 in
        let k = found_passes (letter_test d.0) (by_letter letter) d.1 c h.1.letters (rw h.3 g) in
        let p = k.0 in
        let at_letter = when_some p.0 letter p.1 c k.2 in
        subst₃ Accented h.2 at_letter.0 at_letter.1 (accented_entry d p h.1 k.1)

pub accented_of : (mark letter c : ℕ) → pair_of c ≡ Some (mark, letter)
    → Accented mark letter c
accented_of mark letter c e =
    let h = found_passes diacritic_test
    (λ d. option_map {U = ℕ × ℕ} (λ x. (d.0, x)) (letter_of c d.1)) diacritics (mark, letter)
    diacritics_tested e in
    go h.0 (tested h.0 h.1) (letter_of c h.0.1) refl h.2
  where
    go : (d : ℕ × List (ℕ × ℕ)) → Tested d → (o : Option ℕ) → letter_of c d.1 ≡ o
        → option_map {U = ℕ × ℕ} (λ x. (d.0, x)) o ≡ Some (mark, letter)
        → Accented mark letter c
    go d t None f g = cc
    go d t (Some x) f g =
        let k = found_passes (letter_test d.0) (by_character c) d.1 x t.letters f in
        let p = k.0 in
        let at_character = when_some p.1 c p.0 x k.2 in
        let pairs : ◌≡◌ {A = ℕ × ℕ} (d.0, x) (mark, letter) = same_Some _ _ g in
        let at_mark : d.0 ≡ mark = ap (λ (q : ℕ × ℕ). q.0) pairs in
        let at_letter : p.0 ≡ letter = at_character.1 ∙ ap (λ (q : ℕ × ℕ). q.1) pairs in
        subst₃ Accented at_mark at_letter at_character.0 (accented_entry d p t k.1)
