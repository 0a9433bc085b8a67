-- ISO/IEC 6937 keeps the laws of a character set.
use Rattle.std.specs.Prelude.{◌≡◌, ℕ, zero, suc, ◌<◌, ◌≤◌, true, List, []}
use Rattle.std.specs.Prelude.{◌∷◌, length, take, is_some, Some, None, Option, ◌≢◌, refl}
use Rattle.std.proofs.Common.{sym, ◌∙◌, arith}
use Rattle.std.specs.Option.{option_map}
use Rattle.std.proofs.lemmas.Bool.{false≢true, cond_both}
use Rattle.std.proofs.lemmas.Option.{none-some, same_Some}
use Rattle.charset.specs.Strings.{AreBytes, OneToFour}
use Rattle.charset.specs.Meaning.{Unreadable, IsTwoBytes, Laws}
use Rattle.charset.proofs.FrontLemmas.{alone, no_front_by}
use Rattle.sets.specs.declared.cause.Cause.TheVariants.{NotInUse, NoPair}
use Rattle.sets.specs.Causes.{refusal}
use Rattle.sets.specs.Search.{or_else}
use Rattle.sets.specs.Columns.{byte_of}
use Rattle.sets.specs.Iso6937Table.{supplementary}
use Rattle.sets.specs.Iso6937.{single, letters_of, among, pair, pair_of, iso6937_character}
use Rattle.sets.specs.Iso6937.{iso6937_string, iso6937_openings, iso6937_causes, iso6937}
use Rattle.sets.specs.Laws.Columns.{standing}
use Rattle.sets.specs.Laws.Iso6937Table.{single_at, accented_at, accented_of, mark_alone}

written : (c : ℕ) (s : List ℕ) → iso6937_string c ≡ Some s
    → iso6937_character s ≡ Some c
written c s e = alone_or_pair (byte_of supplementary c) refl e
  where
    in_pairs : (o : Option (ℕ × ℕ)) → pair_of c ≡ o
        → option_map (λ p. p.0 ∷ p.1 ∷ []) o ≡ Some s → iso6937_character s ≡ Some c
    in_pairs None h f = cc
    in_pairs (Some p) h f = rw (← same_Some _ _ f) (accented_of p.0 p.1 c h).stands

    alone_or_pair : (o : Option ℕ) → byte_of supplementary c ≡ o
        → or_else (option_map (λ b. b ∷ []) o)
        (option_map (λ p. p.0 ∷ p.1 ∷ []) (pair_of c)) ≡ Some s
        → iso6937_character s ≡ Some c
    alone_or_pair None h f = in_pairs (pair_of c) refl f
    alone_or_pair (Some b) h f = rw (← same_Some _ _ f) (standing supplementary b c h)

read : (s : List ℕ) (c : ℕ) → iso6937_character s ≡ Some c → iso6937_string c ≡ Some s
read [] c e = cc
read (b ∷ []) c e = (single_at b c e).coded
read (m ∷ l ∷ []) c e = (accented_at m l c e).coded
read (a ∷ b ∷ d ∷ s) c e = cc

sized : (s : List ℕ) (c : ℕ) → iso6937_character s ≡ Some c → OneToFour s
sized [] c e = cc
sized (b ∷ []) c e = (omega arith, omega arith)
sized (m ∷ l ∷ []) c e = (omega arith, omega arith)
sized (a ∷ b ∷ d ∷ s) c e = cc

bytes : (s : List ℕ) (c : ℕ) → iso6937_character s ≡ Some c → AreBytes s
bytes [] c e = cc
bytes (b ∷ []) c e = ((single_at b c e).byte, tt)
bytes (m ∷ l ∷ []) c e = let h = accented_at m l c e in (h.mark_byte, (h.letter_byte, tt))
bytes (a ∷ b ∷ d ∷ s) c e = cc

-- no character of the repertoire is a surrogate or lies beyond
pub low_character : (s : List ℕ) (c : ℕ) → iso6937_character s ≡ Some c → c < 0xd800
low_character [] c e = cc
low_character (b ∷ []) c e = (single_at b c e).low
low_character (m ∷ l ∷ []) c e = (accented_at m l c e).low
low_character (a ∷ b ∷ d ∷ s) c e = cc

opening_sized : (s : List ℕ) → iso6937_openings s ≡ true → length s ≤ 3
opening_sized [] e = omega arith
opening_sized (b ∷ []) e = omega arith
opening_sized (a ∷ b ∷ s) e = cc

-- an opening of one byte is a diacritic
pub opening_mark : (b : ℕ) → is_some (letters_of b) ≡ true
    → (b < 256) × (single b ≡ None)
opening_mark b e = go (letters_of b) refl e
  where
    go : (o : Option (List (ℕ × ℕ))) → letters_of b ≡ o → is_some o ≡ true
        → (b < 256) × (single b ≡ None)
    go None h f = cc
    go (Some ps) h f = mark_alone b ps h

opening_bytes : (s : List ℕ) → iso6937_openings s ≡ true → AreBytes s
opening_bytes [] e = tt
opening_bytes (b ∷ []) e = ((opening_mark b e).0, tt)
opening_bytes (a ∷ b ∷ s) e = cc

marks : (m l c : ℕ) → pair m l ≡ Some c → is_some (letters_of m) ≡ true
marks m l c e = go (letters_of m) e
  where
    go : (o : Option (List (ℕ × ℕ))) → among l o ≡ Some c → is_some o ≡ true
    go None f = cc
    go (Some ps) f = refl

coding_begins : (s : List ℕ) (c n : ℕ) → iso6937_character s ≡ Some c → n < length s
    → iso6937_openings (take n s) ≡ true
coding_begins [] c n e h = cc
coding_begins (b ∷ []) c zero e h = refl
coding_begins (b ∷ []) c (suc n) e h = absurd (omega arith)
coding_begins (m ∷ l ∷ []) c zero e h = refl
coding_begins (m ∷ l ∷ []) c (suc zero) e h = marks m l c e
coding_begins (m ∷ l ∷ []) c (suc (suc n)) e h = absurd (omega arith)
coding_begins (a ∷ b ∷ d ∷ s) c n e h = cc

opening_begins : (s : List ℕ) (n : ℕ) → iso6937_openings s ≡ true
    → iso6937_openings (take n s) ≡ true
opening_begins [] zero e = refl
opening_begins [] (suc n) e = refl
opening_begins (b ∷ []) zero e = refl
opening_begins (b ∷ []) (suc zero) e = e
opening_begins (b ∷ []) (suc (suc n)) e = e
opening_begins (a ∷ b ∷ s) n e = cc

no_coding : (s : List ℕ) (c : ℕ) → iso6937_openings s ≡ true
    → iso6937_character s ≢ Some c
no_coding [] c o e = cc
no_coding (b ∷ []) c o e = none-some _ (sym (opening_mark b o).1 ∙ e)
no_coding (a ∷ b ∷ s) c o e = cc

cause_sized : (s : List ℕ) → IsTwoBytes (iso6937_causes s)
cause_sized [] = (omega arith, omega arith)
cause_sized (b ∷ s) =
    cond_both (is_some (letters_of b)) (refusal NoPair) (refusal NotInUse)
    IsTwoBytes (λ e. (omega arith, omega arith)) (λ e. (omega arith, omega arith))

cause_stays : (s : List ℕ) (n : ℕ) → Unreadable iso6937 (take n s)
    → iso6937_causes s ≡ iso6937_causes (take n s)
cause_stays [] zero h = refl
cause_stays [] (suc n) h = refl
cause_stays (b ∷ s) zero h = absurd (false≢true (sym h.1))
cause_stays (b ∷ s) (suc n) h = refl

pub iso6937_laws : Laws iso6937
iso6937_laws = record {
  written = written;
  read = read;
  sized = sized;
  bytes = bytes;
  characters = λ s c e. omega (arith, low_character s c e);
  empty_opens = refl;
  opening_sized = opening_sized;
  opening_bytes = opening_bytes;
  coding_alone = alone iso6937 coding_begins (no_front_by iso6937 opening_begins no_coding);
  coding_begins = coding_begins;
  opening_begins = opening_begins;
  opening_bare = no_front_by iso6937 opening_begins no_coding;
  cause_sized = λ s h. cause_sized s;
  cause_stays = cause_stays;
  write_cause_sized = λ c h. (omega arith, omega arith);
}
