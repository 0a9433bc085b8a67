-- UTF-8 keeps the laws of a character set.
use Rattle.std.specs.Prelude.{◌≡◌, ℕ, zero, suc, ◌+◌, ◌-◌, ◌*◌, ◌/◌}
use Rattle.std.specs.Prelude.{◌<◌, ◌≤◌, true, false, List, [], ◌∷◌, length, take}
use Rattle.std.specs.Prelude.{Some, None, ◌≢◌, nat_lt, refl}
use Rattle.std.proofs.Common.{sym, ◌∙◌, inl, inr, arith}
use Rattle.std.proofs.lemmas.Bool.{cond-true, lt-ltb, le-ltb, cases_lt, cases_Bool}
use Rattle.std.proofs.lemmas.Bool.Decides.{nat_tests}
use Rattle.std.proofs.lemmas.Option.{none-some, same_Some, cond_some}
use Rattle.charset.specs.Strings.{AreBytes, OneToFour}
use Rattle.charset.specs.Meaning.{IsCodePoint, Laws}
use Rattle.charset.proofs.FrontLemmas.{alone, no_front_by}
use Rattle.sets.specs.Utf8.{least_second, two_octets, three_octets, four_octets, surrogate}
use Rattle.sets.specs.Utf8.{low_bits, utf8_character, utf8_string, utf8_openings, utf8}
use Rattle.sets.specs.Utf8.{OpeningsBeginCodings}

-- each row of the table of section 3, from the number to the octets and back
written_two : (c : ℕ) → 0x80 ≤ c → c < 0x800
    → utf8_character ((0xc0 + c / 64) ∷ low_bits c ∷ []) ≡ Some c
written_two c h k =
    let a : two_octets (0xc0 + c / 64) (low_bits c) ≡ true = grind (arith, nat_tests) in
    let v : (0xc0 + c / 64 - 0xc0) * 64 + (low_bits c - 0x80) ≡ c = omega arith in
    rw (a, v) refl

written_three : (c : ℕ) → 0x800 ≤ c → c < 0x10000 → surrogate c ≡ false
    → utf8_character ((0xe0 + c / 4096) ∷ low_bits (c / 64) ∷ low_bits c ∷ []) ≡ Some c
written_three c h k s =
    let a : three_octets (0xe0 + c / 4096) (low_bits (c / 64)) (low_bits c) ≡ true =
    grind (arith, nat_tests) in
    let v : (0xe0 + c / 4096 - 0xe0) * 4096 + (low_bits (c / 64) - 0x80) * 64 +
    (low_bits c - 0x80) ≡ c = omega arith in
    rw (a, v) refl

written_four : (c : ℕ) → 0x10000 ≤ c → c < 0x110000
    → utf8_character ((0xf0 + c / 262144) ∷ low_bits (c / 4096) ∷ low_bits (c / 64)
    ∷ low_bits c ∷ []) ≡ Some c
written_four c h k =
    let a : four_octets (0xf0 + c / 262144) (low_bits (c / 4096)) (low_bits (c / 64))
    (low_bits c) ≡ true = grind (arith, nat_tests) in
    let x : c / 64 / 64 ≡ c / 4096 = omega arith in
    let y : c / 4096 / 64 ≡ c / 262144 = omega arith in
    let v : (0xf0 + c / 262144 - 0xf0) * 262144 + (low_bits (c / 4096) - 0x80) * 4096 +
    (low_bits (c / 64) - 0x80) * 64 + (low_bits c - 0x80) ≡ c = omega arith in
    rw (a, v) refl

-- the row that a number falls in
string_one : (c : ℕ) → c < 0x80 → utf8_string c ≡ Some (c ∷ [])
string_one c h = rw (lt-ltb c 0x80 h) refl

string_two : (c : ℕ) → 0x80 ≤ c → c < 0x800
    → utf8_string c ≡ Some ((0xc0 + c / 64) ∷ low_bits c ∷ [])
string_two c h k = rw (le-ltb c 0x80 h, lt-ltb c 0x800 k) refl

string_three : (c : ℕ) → 0x800 ≤ c → surrogate c ≡ false → c < 0x10000
    → utf8_string c ≡ Some ((0xe0 + c / 4096) ∷ low_bits (c / 64) ∷ low_bits c ∷ [])
string_three c h k l =
    rw (le-ltb c 0x80 (omega arith), le-ltb c 0x800 h, k, lt-ltb c 0x10000 l) refl

string_surrogate : (c : ℕ) → surrogate c ≡ true → utf8_string c ≡ None
string_surrogate c h = grind (arith, nat_tests)

string_four : (c : ℕ) → 0x10000 ≤ c → c < 0x110000
    → utf8_string c ≡ Some ((0xf0 + c / 262144) ∷ low_bits (c / 4096) ∷ low_bits (c / 64)
    ∷ low_bits c ∷ [])
string_four c h k =
    let apart : surrogate c ≡ false = grind (arith, nat_tests) in
    rw (
      le-ltb c 0x80 (omega arith),
      le-ltb c 0x800 (omega arith),
      apart,
      le-ltb c 0x10000 h,
      lt-ltb c 0x110000 k,
    ) refl

string_past : (c : ℕ) → 0x110000 ≤ c → utf8_string c ≡ None
string_past c h =
    let apart : surrogate c ≡ false = grind (arith, nat_tests) in
    rw (
      le-ltb c 0x80 (omega arith),
      le-ltb c 0x800 (omega arith),
      apart,
      le-ltb c 0x10000 (omega arith),
      le-ltb c 0x110000 h,
    ) refl

-- every number below the surrogates has a coding
pub low_written : (c : ℕ) → c < 0xd800 → (s : List ℕ) × (utf8_string c ≡ Some s)
low_written c h = elim (cases_lt c 0x80) [
  | inl k ↦ (_, string_one c k)
  | inr k ↦ elim (cases_lt c 0x800) [
    | inl l ↦ (_, string_two c k l)
    | inr l ↦ (_, string_three c l (grind (arith, nat_tests)) (omega arith))
  ]
]

written : (c : ℕ) (s : List ℕ) → utf8_string c ≡ Some s → utf8_character s ≡ Some c
written c s e = elim (cases_lt c 0x80) [
  | inl h ↦ by (string_one c h) (rw (lt-ltb c 0x80 h) refl)
  | inr h ↦ elim (cases_lt c 0x800) [
    | inl k ↦ by (string_two c h k) (written_two c h k)
    | inr k ↦ elim (cases_Bool (surrogate c)) [
      | inl t ↦ absurd (none-some _ (sym (string_surrogate c t) ∙ e))
      | inr f ↦ elim (cases_lt c 0x10000) [
        | inl l ↦ by (string_three c k f l) (written_three c k l f)
        | inr l ↦ elim (cases_lt c 0x110000) [
          | inl n ↦ by (string_four c l n) (written_four c l n)
          | inr n ↦ absurd (none-some _ (sym (string_past c n) ∙ e))
        ]
      ]
    ]
  ]
]
  where
    by : {t : List ℕ} → utf8_string c ≡ Some t → utf8_character t ≡ Some c
        → utf8_character s ≡ Some c
    by f g = rw (← same_Some _ _ (sym f ∙ e)) g

read_one : (a : ℕ) → nat_lt a 0x80 ≡ true → utf8_string a ≡ Some (a ∷ [])
read_one a t = rw t refl

read_two : (a b : ℕ) → two_octets a b ≡ true
    → utf8_string ((a - 0xc0) * 64 + (b - 0x80)) ≡ Some (a ∷ b ∷ [])
read_two a b t = grind (arith, nat_tests)

read_three : (a b c : ℕ) → three_octets a b c ≡ true
    → utf8_string ((a - 0xe0) * 4096 + (b - 0x80) * 64 + (c - 0x80))
    ≡ Some (a ∷ b ∷ c ∷ [])
read_three a b c t = grind (arith, nat_tests)

read_four : (a b c d : ℕ) → four_octets a b c d ≡ true
    → utf8_string ((a - 0xf0) * 262144 + (b - 0x80) * 4096 + (c - 0x80) * 64 + (d - 0x80))
    ≡ Some (a ∷ b ∷ c ∷ d ∷ [])
read_four a b c d t = grind (arith, nat_tests)

read : (s : List ℕ) (c : ℕ) → utf8_character s ≡ Some c → utf8_string c ≡ Some s
read [] n e = cc
read (a ∷ []) n e = let h = cond_some _ _ n e in rw (← h.1) (read_one a h.0)
read (a ∷ b ∷ []) n e = let h = cond_some _ _ n e in rw (← h.1) (read_two a b h.0)
read (a ∷ b ∷ c ∷ []) n e = let h = cond_some _ _ n e in rw (← h.1) (read_three a b c h.0)
read (a ∷ b ∷ c ∷ d ∷ []) n e =
    let h = cond_some _ _ n e in rw (← h.1) (read_four a b c d h.0)
read (a ∷ b ∷ c ∷ d ∷ x ∷ s) n e = cc

sized : (s : List ℕ) (c : ℕ) → utf8_character s ≡ Some c → OneToFour s
sized [] n e = cc
sized (a ∷ []) n e = (omega arith, omega arith)
sized (a ∷ b ∷ []) n e = (omega arith, omega arith)
sized (a ∷ b ∷ c ∷ []) n e = (omega arith, omega arith)
sized (a ∷ b ∷ c ∷ d ∷ []) n e = (omega arith, omega arith)
sized (a ∷ b ∷ c ∷ d ∷ x ∷ s) n e = cc

bytes : (s : List ℕ) (c : ℕ) → utf8_character s ≡ Some c → AreBytes s
bytes [] n e = cc
bytes (a ∷ []) n e = let h = (cond_some _ _ n e).0 in (grind (arith, nat_tests), tt)
bytes (a ∷ b ∷ []) n e =
    let h = (cond_some _ _ n e).0 in (grind (arith, nat_tests), (grind (arith, nat_tests), tt))
bytes (a ∷ b ∷ c ∷ []) n e =
    let h = (cond_some _ _ n e).0 in (
      grind (arith, nat_tests),
      (grind (arith, nat_tests), (grind (arith, nat_tests), tt)),
    )
bytes (a ∷ b ∷ c ∷ d ∷ []) n e =
    let h = (cond_some _ _ n e).0 in (
      grind (arith, nat_tests),
      (grind (arith, nat_tests), (grind (arith, nat_tests), (grind (arith, nat_tests), tt))),
    )
bytes (a ∷ b ∷ c ∷ d ∷ x ∷ s) n e = cc

characters : (s : List ℕ) (c : ℕ) → utf8_character s ≡ Some c → IsCodePoint c
characters s c e = elim (cases_lt c 0x110000) [
  | inl h ↦ omega arith
  | inr h ↦ absurd (none-some _ (sym (string_past c h) ∙ read s c e))
]

opening_sized : (s : List ℕ) → utf8_openings s ≡ true → length s ≤ 3
opening_sized [] o = omega arith
opening_sized (a ∷ []) o = omega arith
opening_sized (a ∷ b ∷ []) o = omega arith
opening_sized (a ∷ b ∷ c ∷ []) o = omega arith
opening_sized (a ∷ b ∷ c ∷ d ∷ s) o = cc

opening_bytes : (s : List ℕ) → utf8_openings s ≡ true → AreBytes s
opening_bytes [] o = tt
opening_bytes (a ∷ []) o = (grind (arith, nat_tests), tt)
opening_bytes (a ∷ b ∷ []) o = (grind (arith, nat_tests), (grind (arith, nat_tests), tt))
opening_bytes (a ∷ b ∷ c ∷ []) o =
    (grind (arith, nat_tests), (grind (arith, nat_tests), (grind (arith, nat_tests), tt)))
opening_bytes (a ∷ b ∷ c ∷ d ∷ s) o = cc

coding_begins : (s : List ℕ) (c n : ℕ) → utf8_character s ≡ Some c → n < length s
    → utf8_openings (take n s) ≡ true
coding_begins s v zero e k = refl
coding_begins [] v (suc n) e k = cc
coding_begins (a ∷ []) v (suc n) e k = absurd (omega arith)
coding_begins (a ∷ b ∷ []) v (suc zero) e k =
    let h = (cond_some _ _ v e).0 in grind (arith, nat_tests)
coding_begins (a ∷ b ∷ []) v (suc (suc n)) e k = absurd (omega arith)
coding_begins (a ∷ b ∷ c ∷ []) v (suc zero) e k =
    let h = (cond_some _ _ v e).0 in grind (arith, nat_tests)
coding_begins (a ∷ b ∷ c ∷ []) v (suc (suc zero)) e k =
    let h = (cond_some _ _ v e).0 in grind (arith, nat_tests)
coding_begins (a ∷ b ∷ c ∷ []) v (suc (suc (suc n))) e k = absurd (omega arith)
coding_begins (a ∷ b ∷ c ∷ d ∷ []) v (suc zero) e k =
    let h = (cond_some _ _ v e).0 in grind (arith, nat_tests)
coding_begins (a ∷ b ∷ c ∷ d ∷ []) v (suc (suc zero)) e k =
    let h = (cond_some _ _ v e).0 in grind (arith, nat_tests)
coding_begins (a ∷ b ∷ c ∷ d ∷ []) v (suc (suc (suc zero))) e k =
    let h = (cond_some _ _ v e).0 in grind (arith, nat_tests)
coding_begins (a ∷ b ∷ c ∷ d ∷ []) v (suc (suc (suc (suc n)))) e k = absurd (omega arith)
coding_begins (a ∷ b ∷ c ∷ d ∷ x ∷ s) v (suc n) e k = cc

opening_begins : (s : List ℕ) (n : ℕ) → utf8_openings s ≡ true
    → utf8_openings (take n s) ≡ true
opening_begins s zero o = refl
opening_begins [] (suc n) o = refl
opening_begins (a ∷ []) (suc zero) o = o
opening_begins (a ∷ []) (suc (suc n)) o = o
opening_begins (a ∷ b ∷ []) (suc zero) o = grind (arith, nat_tests)
opening_begins (a ∷ b ∷ []) (suc (suc zero)) o = o
opening_begins (a ∷ b ∷ []) (suc (suc (suc n))) o = o
opening_begins (a ∷ b ∷ c ∷ []) (suc zero) o = grind (arith, nat_tests)
opening_begins (a ∷ b ∷ c ∷ []) (suc (suc zero)) o = grind (arith, nat_tests)
opening_begins (a ∷ b ∷ c ∷ []) (suc (suc (suc zero))) o = o
opening_begins (a ∷ b ∷ c ∷ []) (suc (suc (suc (suc n)))) o = o
opening_begins (a ∷ b ∷ c ∷ d ∷ s) (suc n) o = cc

-- an opening is no coding
no_coding : (s : List ℕ) (v : ℕ) → utf8_openings s ≡ true → utf8_character s ≢ Some v
no_coding [] v o e = cc
no_coding (a ∷ []) v o e = let h = (cond_some _ _ v e).0 in grind (arith, nat_tests)
no_coding (a ∷ b ∷ []) v o e = let h = (cond_some _ _ v e).0 in grind (arith, nat_tests)
no_coding (a ∷ b ∷ c ∷ []) v o e = let h = (cond_some _ _ v e).0 in grind (arith, nat_tests)
no_coding (a ∷ b ∷ c ∷ d ∷ s) v o e = cc

pub utf8_laws : Laws utf8
utf8_laws = record {
  written = written;
  read = read;
  sized = sized;
  bytes = bytes;
  characters = characters;
  empty_opens = refl;
  opening_sized = opening_sized;
  opening_bytes = opening_bytes;
  coding_alone = alone utf8 coding_begins (no_front_by utf8 opening_begins no_coding);
  coding_begins = coding_begins;
  opening_begins = opening_begins;
  opening_bare = no_front_by utf8 opening_begins no_coding;
  cause_sized = λ s h. (omega arith, omega arith);
  cause_stays = λ s n h. refl;
  write_cause_sized = λ c h. (omega arith, omega arith);
}

-- an opening goes on with the least octets that may follow
pub openings_begin_codings : OpeningsBeginCodings
openings_begin_codings [] o = (0x20 ∷ [], 0x20, omega arith, refl)
openings_begin_codings (a ∷ []) o = elim (cases_lt a 0xe0) [
  | inl h ↦ (0x80 ∷ [], _, omega arith, cond-true _ (Some _) None (grind (arith, nat_tests)))
  | inr h ↦ elim (cases_lt a 0xf0) [
    | inl k ↦ (
      least_second a ∷ 0x80 ∷ [],
      _,
      omega arith,
      cond-true _ (Some _) None (grind (arith, nat_tests)),
    )
    | inr k ↦ (
      least_second a ∷ 0x80 ∷ 0x80 ∷ [],
      _,
      omega arith,
      cond-true _ (Some _) None (grind (arith, nat_tests)),
    )
  ]
]
openings_begin_codings (a ∷ b ∷ []) o = elim (cases_lt a 0xf0) [
  | inl k ↦ (0x80 ∷ [], _, omega arith, cond-true _ (Some _) None (grind (arith, nat_tests)))
  | inr k ↦ (
    0x80 ∷ 0x80 ∷ [],
    _,
    omega arith,
    cond-true _ (Some _) None (grind (arith, nat_tests)),
  )
]
openings_begin_codings (a ∷ b ∷ c ∷ []) o =
    (0x80 ∷ [], _, omega arith, cond-true _ (Some _) None (grind (arith, nat_tests)))
openings_begin_codings (a ∷ b ∷ c ∷ d ∷ s) o = cc
