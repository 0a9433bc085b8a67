-- A set of single bytes keeps the laws of a character set.
use Rattle.std.specs.Prelude.{◌≡◌, ℕ, zero, suc, ◌<◌, true, List, [], ◌∷◌}
use Rattle.std.specs.Prelude.{length, take, Some, None, Option, refl}
use Rattle.std.proofs.Common.{sym, ap, ◌∙◌, arith}
use Rattle.std.specs.Option.{option_map}
use Rattle.std.proofs.lemmas.Option.{none-some, same_Some}
use Rattle.charset.specs.Strings.{AreBytes, OneToFour}
use Rattle.charset.specs.Meaning.{NoFront, IsCodePoint, Laws}
use Rattle.charset.proofs.FrontLemmas.{alone}
use Rattle.sets.specs.Columns.{byte_of, one_to_one}
use Rattle.sets.specs.SingleByte.{single_byte_character, single_byte_openings, single_byte}
use Rattle.sets.specs.Laws.Columns.{placed, standing}

module _ (columns : List (List ℕ)) (ok : one_to_one columns ≡ true) where
  written : (c : ℕ) (s : List ℕ) → option_map (λ b. b ∷ []) (byte_of columns c) ≡ Some s
      → single_byte_character columns s ≡ Some c
  written c s e = go (byte_of columns c) refl e
    where
      go : (o : Option ℕ) → byte_of columns c ≡ o → option_map (λ b. b ∷ []) o ≡ Some s
          → single_byte_character columns s ≡ Some c
      go None h f = cc
      go (Some b) h f = rw (← same_Some _ _ f) (standing columns b c h)

  read : (s : List ℕ) (c : ℕ) → single_byte_character columns s ≡ Some c
      → option_map (λ b. b ∷ []) (byte_of columns c) ≡ Some s
  read [] c e = cc
  read (b ∷ []) c e = rw (placed columns ok b c e).back refl
  read (a ∷ b ∷ s) c e = cc

  sized : (s : List ℕ) (c : ℕ) → single_byte_character columns s ≡ Some c
      → OneToFour s
  sized [] c e = cc
  sized (b ∷ []) c e = (omega arith, omega arith)
  sized (a ∷ b ∷ s) c e = cc

  bytes : (s : List ℕ) (c : ℕ) → single_byte_character columns s ≡ Some c
      → AreBytes s
  bytes [] c e = cc
  bytes (b ∷ []) c e = ((placed columns ok b c e).byte, tt)
  bytes (a ∷ b ∷ s) c e = cc

  characters : (s : List ℕ) (c : ℕ) → single_byte_character columns s ≡ Some c
      → IsCodePoint c
  characters [] c e = cc
  characters (b ∷ []) c e = (placed columns ok b c e).small
  characters (a ∷ b ∷ s) c e = cc

  only_empty : (s : List ℕ) → single_byte_openings s ≡ true → s ≡ []
  only_empty [] o = refl
  only_empty (b ∷ s) o = cc

  coding_begins : (s : List ℕ) (c n : ℕ) → single_byte_character columns s ≡ Some c
      → n < length s → single_byte_openings (take n s) ≡ true
  coding_begins s c zero e h = refl
  coding_begins [] c (suc n) e h = cc
  coding_begins (b ∷ []) c (suc n) e h = absurd (omega arith)
  coding_begins (a ∷ b ∷ s) c (suc n) e h = cc

  opening_begins : (s : List ℕ) (n : ℕ) → single_byte_openings s ≡ true
      → single_byte_openings (take n s) ≡ true
  opening_begins s zero o = refl
  opening_begins [] (suc n) o = refl
  opening_begins (b ∷ s) (suc n) o = cc

  opening_bare : (s : List ℕ) → single_byte_openings s ≡ true
      → NoFront (single_byte columns) s
  opening_bare s o n c e =
      none-some _ (ap (single_byte_character columns)
      (sym (only_empty (take n s) (opening_begins s n o))) ∙ e)

  pub single_byte_laws : Laws (single_byte columns)
  single_byte_laws = record {
    written = written;
    read = read;
    sized = sized;
    bytes = bytes;
    characters = characters;
    empty_opens = refl;
    opening_sized = λ s o. rw (only_empty s o) (omega arith);
    opening_bytes = λ s o. rw (only_empty s o) tt;
    coding_alone = alone (single_byte columns) coding_begins opening_bare;
    coding_begins = coding_begins;
    opening_begins = opening_begins;
    opening_bare = opening_bare;
    cause_sized = λ s h. (omega arith, omega arith);
    cause_stays = λ s n h. refl;
    write_cause_sized = λ c h. (omega arith, omega arith);
  }
