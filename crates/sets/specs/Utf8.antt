-- UTF-8, by RFC 3629.
use Rattle.std.specs.Prelude.{ℕ, ◌+◌, ◌-◌, ◌*◌, ◌/◌, ◌%◌, ◌<◌, Bool, true}
use Rattle.std.specs.Prelude.{false, cond, ◌&&◌, List, [], ◌∷◌, ◌++◌, length, Some}
use Rattle.std.specs.Prelude.{None, Option, ◌==◌, nat_le, nat_lt}
use Rattle.charset.specs.declared.SetRefusal.{SetRefusal}
use Rattle.charset.specs.Meaning.{Codings, Meaning, meaning, Codes, IsOpening}
use Rattle.sets.specs.declared.cause.Cause.TheVariants.{Malformed}
use Rattle.sets.specs.Causes.{refusal, no_coding_cause}
use Rattle.sets.specs.Search.{when}

abbrev pub within : ℕ → ℕ → ℕ → Bool
within low high n = nat_le low n && nat_le n high

-- the octets of section 4: the first of two to four, the second after each first one, and a tail
abbrev pub lead : ℕ → Bool
lead = within 0xc2 0xf4

abbrev pub tail : ℕ → Bool
tail = within 0x80 0xbf

abbrev pub least_second : ℕ → ℕ
least_second a = cond (a == 0xe0) 0xa0 (cond (a == 0xf0) 0x90 0x80)

abbrev pub greatest_second : ℕ → ℕ
greatest_second a = cond (a == 0xed) 0x9f (cond (a == 0xf4) 0x8f 0xbf)

abbrev pub second : ℕ → ℕ → Bool
second a = within (least_second a) (greatest_second a)

abbrev pub two_octets : ℕ → ℕ → Bool
two_octets a b = within 0xc2 0xdf a && second a b

abbrev pub three_octets : ℕ → ℕ → ℕ → Bool
three_octets a b c = within 0xe0 0xef a && (second a b && tail c)

abbrev pub four_octets : ℕ → ℕ → ℕ → ℕ → Bool
four_octets a b c d = within 0xf0 0xf4 a && (second a b && (tail c && tail d))

-- the bits of the octets, by the table of section 3
abbrev pub utf8_character : List ℕ → Option ℕ
utf8_character [] = None
utf8_character (a ∷ []) = when (nat_lt a 0x80) a
utf8_character (a ∷ b ∷ []) = when (two_octets a b) ((a - 0xc0) * 64 + (b - 0x80))
utf8_character (a ∷ b ∷ c ∷ []) =
    when (three_octets a b c) ((a - 0xe0) * 4096 + (b - 0x80) * 64 + (c - 0x80))
utf8_character (a ∷ b ∷ c ∷ d ∷ []) =
    when (four_octets a b c d) ((a - 0xf0) * 262144 + (b - 0x80) * 4096 + (c - 0x80) * 64 +
    (d - 0x80))
utf8_character (a ∷ b ∷ c ∷ d ∷ e ∷ s) = None

abbrev pub surrogate : ℕ → Bool
surrogate = within 0xd800 0xdfff

-- a tail octet with the six lowest bits of n
abbrev pub low_bits : ℕ → ℕ
low_bits n = 0x80 + n % 64

abbrev pub utf8_string : ℕ → Option (List ℕ)
utf8_string c =
    cond (nat_lt c 0x80) (Some (c ∷ []))
    (cond (nat_lt c 0x800) (Some ((0xc0 + c / 64) ∷ low_bits c ∷ []))
    (cond (surrogate c) None
    (cond (nat_lt c 0x10000) (Some ((0xe0 + c / 4096) ∷ low_bits (c / 64) ∷ low_bits c ∷ []))
    (cond (nat_lt c 0x110000)
    (Some ((0xf0 + c / 262144) ∷ low_bits (c / 4096) ∷ low_bits (c / 64) ∷ low_bits c ∷ []))
    None))))

-- the proper beginnings of codings, as `OpeningsBeginCodings` and the laws say
abbrev pub utf8_openings : List ℕ → Bool
utf8_openings [] = true
utf8_openings (a ∷ []) = lead a
utf8_openings (a ∷ b ∷ []) = within 0xe0 0xf4 a && second a b
utf8_openings (a ∷ b ∷ c ∷ []) = within 0xf0 0xf4 a && (second a b && tail c)
utf8_openings (a ∷ b ∷ c ∷ d ∷ s) = false

abbrev pub utf8_causes : List ℕ → SetRefusal
utf8_causes s = refusal Malformed

abbrev pub utf8_codings : Codings
utf8_codings = record { character = utf8_character; string = utf8_string }

abbrev pub utf8 : Meaning
utf8 = meaning utf8_codings utf8_openings utf8_causes no_coding_cause

-- every opening is a proper beginning of a coding
abbrev pub OpeningsBeginCodings : Type 0
OpeningsBeginCodings =
    (s : List ℕ) → IsOpening utf8 s
    → (t : List ℕ) × (c : ℕ) × (0 < length t) × Codes utf8 (s ++ t) c
