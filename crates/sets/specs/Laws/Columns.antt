-- A code table of single bytes is one to one where its test passes.
use Rattle.std.specs.Prelude.{◌≡◌, ℕ, ◌<◌, ◌≤◌, Bool, true, false, cond, ◌&&◌}
use Rattle.std.specs.Prelude.{List, Some, None, Option, nat_le, nat_lt, refl}
use Rattle.std.proofs.Common.{ap, arith}
use Rattle.std.proofs.lemmas.Bool.{and_parts, eqb-true, leb-true, ltb-true}
use Rattle.std.proofs.lemmas.Bool.Decides.{nat_tests}
use Rattle.std.proofs.lemmas.Option.{same_Some}
use Rattle.charset.specs.Meaning.{IsCodePoint}
use Rattle.sets.specs.Search.{every_from}
use Rattle.sets.specs.Columns.{ascii, upper_at, character_at, is_character, upper_of, byte_of}
use Rattle.sets.specs.Columns.{placed_once, one_to_one}
use Rattle.sets.specs.Laws.Search.{first_passes, every_at}

pub is_this : (c : ℕ) (o : Option ℕ) → is_character c o ≡ true → o ≡ Some c
is_this c None e = cc
is_this c (Some d) e = ap Some (eqb-true d c e)

not_ascii : (b : ℕ) → 0xa0 ≤ b → ascii b ≡ false
not_ascii b h = grind (arith, nat_tests)

-- only the bytes from A0 to FF stand in the six columns
pub upper_byte : (columns : List (List ℕ)) (b c : ℕ) → upper_at columns b ≡ Some c
    → (0xa0 ≤ b) × (b < 256)
upper_byte columns b c e = go (nat_le 0xa0 b && nat_le b 0xff) _ refl e
  where
    go : (t : Bool) (o : Option ℕ) → (nat_le 0xa0 b && nat_le b 0xff) ≡ t
        → cond t o None ≡ Some c → (0xa0 ≤ b) × (b < 256)
    go true o h f = (grind (arith, nat_tests), grind (arith, nat_tests))
    go false o h f = cc

-- a byte and its character
pub record Placed (columns : List (List ℕ)) (b c : ℕ) : Type 0 where
  pub byte : b < 256
  pub back : byte_of columns c ≡ Some b
  pub small : IsCodePoint c

pub placed : (columns : List (List ℕ)) → one_to_one columns ≡ true → (b c : ℕ)
    → character_at columns b ≡ Some c → Placed columns b c
unfolding one_to_one
placed columns ok b c e = go (ascii b) refl e
  where
    go : (t : Bool) → ascii b ≡ t → cond t (Some b) (upper_at columns b) ≡ Some c
        → Placed columns b c
    go true h f =
        let same : b ≡ c = cc in
        record {
          byte = grind (arith, nat_tests);
          back = rw (← same, h) refl;
          small =
              grind (arith, nat_tests);
        }
    go false h f =
        let range = upper_byte columns b c f in
        let here = every_at (λ x. placed_once columns x (upper_at columns x)) 0xa0 96 b ok range.0
        range.1 in
        let both = and_parts (is_character b (byte_of columns c)) (nat_le c 0x10ffff)
        (rw f at here) in
        record {
          byte = range.1;
          back = is_this b (byte_of columns c) both.0;
          small =
              leb-true c 0x10ffff both.1;
        }

-- the byte of a character has it
pub standing : (columns : List (List ℕ)) (b c : ℕ) → byte_of columns c ≡ Some b
    → character_at columns b ≡ Some c
standing columns b c e = go (ascii c) refl e
  where
    go : (t : Bool) → ascii c ≡ t → cond t (Some c) (upper_of columns c) ≡ Some b
        → character_at columns b ≡ Some c
    go true h f = rw (← same_Some _ _ f, h) refl
    go false h f =
        let p = first_passes (λ x. is_character c (upper_at columns x)) 0xa0 96 b f in
        rw (not_ascii b p.0) (is_this c (upper_at columns b) p.2)

-- no character of the upper half from U+D800 up, by a test over the whole
abbrev pub low : Option ℕ → Bool
low None = true
low (Some c) = nat_lt c 0xd800

abbrev pub all_low : List (List ℕ) → Bool
all_low columns = every_from (λ b. low (upper_at columns b)) 0xa0 96

pub low_at : (columns : List (List ℕ)) → all_low columns ≡ true → (b c : ℕ)
    → character_at columns b ≡ Some c → c < 0xd800
low_at columns ok b c e = go (ascii b) refl e
  where
    go : (t : Bool) → ascii b ≡ t → cond t (Some b) (upper_at columns b) ≡ Some c
        → c < 0xd800
    go true h f = let same : b ≡ c = cc in grind (arith, nat_tests)
    go false h f =
        let range = upper_byte columns b c f in
        ltb-true c 0xd800
        (rw f at (every_at (λ x. low (upper_at columns x)) 0xa0 96 b ok range.0 range.1))
