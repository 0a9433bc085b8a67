-- The odd set keeps the laws, and what it cannot read.
use Rattle.std.specs.Prelude.{◌≡◌, ℕ, zero, suc, ◌<◌, ◌≤◌, true, List, []}
use Rattle.std.specs.Prelude.{◌∷◌, length, take, Some, None, ◌≢◌, slice_index, refl}
use Rattle.std.proofs.Common.{arith}
use Rattle.std.proofs.lemmas.Bool.Decides.{nat_tests}
use Rattle.charset.specs.Strings.{AreBytes, OneToFour}
use Rattle.charset.specs.Meaning.{Unreadable, IsCodePoint, Laws}
use Rattle.charset.proofs.FrontLemmas.{alone, no_front_by, unreadable_here}
use Rattle.examples.specs.Odd.{odd_pair, odd_opens, odd_character, odd_string, odd_openings}
use Rattle.examples.specs.Odd.{odd}

written : (c : ℕ) (s : List ℕ) → odd_string c ≡ Some s → odd_character s ≡ Some c
written c s e = grind (arith, nat_tests)

read : (s : List ℕ) (c : ℕ) → odd_character s ≡ Some c → odd_string c ≡ Some s
read [] c e = cc
read (a ∷ []) c e = grind (arith, nat_tests)
read (a ∷ b ∷ []) c e = grind (arith, nat_tests)
read (a ∷ b ∷ d ∷ s) c e = cc

sized : (s : List ℕ) (c : ℕ) → odd_character s ≡ Some c → OneToFour s
sized [] c e = cc
sized (a ∷ []) c e = (omega arith, omega arith)
sized (a ∷ b ∷ []) c e = (omega arith, omega arith)
sized (a ∷ b ∷ d ∷ s) c e = cc

bytes : (s : List ℕ) (c : ℕ) → odd_character s ≡ Some c → AreBytes s
bytes [] c e = cc
bytes (a ∷ []) c e = (grind (arith, nat_tests), tt)
bytes (a ∷ b ∷ []) c e = (grind (arith, nat_tests), (grind (arith, nat_tests), tt))
bytes (a ∷ b ∷ d ∷ s) c e = cc

characters : (s : List ℕ) (c : ℕ) → odd_character s ≡ Some c → IsCodePoint c
characters [] c e = cc
characters (a ∷ []) c e = grind (arith, nat_tests)
characters (a ∷ b ∷ []) c e = grind (arith, nat_tests)
characters (a ∷ b ∷ d ∷ s) c e = cc

opening_sized : (s : List ℕ) → odd_openings s ≡ true → length s ≤ 3
opening_sized [] o = omega arith
opening_sized (a ∷ []) o = omega arith
opening_sized (a ∷ b ∷ s) o = cc

opening_bytes : (s : List ℕ) → odd_openings s ≡ true → AreBytes s
opening_bytes [] o = tt
opening_bytes (a ∷ []) o = (grind (arith, nat_tests), tt)
opening_bytes (a ∷ b ∷ s) o = cc

coding_begins : (s : List ℕ) (c n : ℕ) → odd_character s ≡ Some c → n < length s
    → odd_openings (take n s) ≡ true
coding_begins s c zero e h = refl
coding_begins [] c (suc n) e h = cc
coding_begins (a ∷ []) c (suc n) e h = absurd (omega arith)
coding_begins (a ∷ b ∷ []) c (suc zero) e h = grind (arith, nat_tests)
coding_begins (a ∷ b ∷ []) c (suc (suc n)) e h = absurd (omega arith)
coding_begins (a ∷ b ∷ d ∷ s) c (suc n) e h = cc

opening_begins : (s : List ℕ) (n : ℕ) → odd_openings s ≡ true
    → odd_openings (take n s) ≡ true
opening_begins s zero o = refl
opening_begins [] (suc n) o = refl
opening_begins (a ∷ []) (suc zero) o = o
opening_begins (a ∷ []) (suc (suc n)) o = o
opening_begins (a ∷ b ∷ s) (suc n) o = cc

no_coding : (s : List ℕ) (c : ℕ) → odd_openings s ≡ true → odd_character s ≢ Some c
no_coding [] c o e = cc
no_coding (a ∷ []) c o e = grind (arith, nat_tests)
no_coding (a ∷ b ∷ s) c o e = cc

pub odd_laws : Laws odd
odd_laws = record {
  written = written;
  read = read;
  sized = sized;
  bytes = bytes;
  characters = characters;
  empty_opens = refl;
  opening_sized = opening_sized;
  opening_bytes = opening_bytes;
  coding_alone = alone odd coding_begins (no_front_by odd opening_begins no_coding);
  coding_begins = coding_begins;
  opening_begins = opening_begins;
  opening_bare = no_front_by odd opening_begins no_coding;
  cause_sized = λ s h. (omega arith, omega arith);
  cause_stays = λ s n h. refl;
  write_cause_sized = λ c h. (omega arith, omega arith);
}

pub bad_second : (s : List ℕ) → 2 ≤ length s → odd_opens (slice_index s 0) ≡ true
    → odd_pair (slice_index s 0) (slice_index s 1) ≡ None → Unreadable odd s
bad_second [] l h k = absurd (omega arith)
bad_second (a ∷ []) l h k = absurd (omega arith)
bad_second (a ∷ b ∷ s) l h k = unreadable_here odd_laws (a ∷ b ∷ s) 1 h k refl
