-- When a difference is of a known kind.
use Rattle.std.specs.Prelude.{◌≡◌, ℕ, ◌*◌, ◌/◌, ◌%◌, ◌≤◌, Bool, true}
use Rattle.std.specs.Prelude.{false, nat_eq, cond, ◌&&◌, ◌||◌, ◌⊎◌, ◌≢◌}
use Rattle.std.specs.Prelude.{nat_le, nat_lt, Some, None, Option}
use Rattle.conformance.specs.declared.answer.Reply.{Reply}
use Rattle.conformance.specs.declared.answer.Reply.TheVariants as answer
use Rattle.conformance.specs.declared.known.Known.{Known}
use Rattle.conformance.specs.declared.known.Known.TheVariants as known
use Rattle.conformance.specs.declared.vector.Set.{Set}
use Rattle.conformance.specs.declared.vector.Set.TheVariants as set
use Rattle.conformance.specs.declared.vector.Question.{Question}
use Rattle.conformance.specs.declared.vector.Question.TheVariants as question
use Rattle.conformance.specs.declared.vector.Vector.{Vector}
use Rattle.conformance.specs.Agreement.{is_refusal}

-- the positions of control characters
abbrev pub control_position : ℕ → Bool
control_position n = nat_lt n 0x20 || (nat_le 0x7f n && nat_lt n 0xa0)

-- the first byte of a string of one or two bytes, by its digits and its number
abbrev pub first_byte : ℕ → ℕ → ℕ
first_byte width n = cond (nat_lt 2 width) (n / 256) n

-- they have a control character, or a character of their own, at a byte that our set does not use
abbrev pub IsControl : ℕ → ℕ → Type 0
IsControl c b = (c ≡ b) × (control_position b ≡ true)

abbrev pub IsWindow : Set → ℕ → ℕ → Type 0
IsWindow s c b = (s ≡ set.Sami) × (control_position b ≡ true) × (c ≢ b)

abbrev pub Beyond : Set → ℕ → ℕ → Option Known → Type 0
Beyond s c b (Some known.Control) = IsControl c b
Beyond s c b (Some known.Window) = IsWindow s c b
Beyond s c b None = (IsControl c b → ⊥) × (IsWindow s c b → ⊥)
Beyond s c b (Some known.Bar) = ⊥
Beyond s c b (Some known.Stroke) = ⊥
Beyond s c b (Some known.SmallG) = ⊥
Beyond s c b (Some known.Waits) = ⊥
Beyond s c b (Some known.Tags) = ⊥

-- their answer and ours to a string x of ISO/IEC 6937, as a number
abbrev pub IsBar : Reply → Reply → Type 0
IsBar theirs ours = (theirs ≡ answer.Character 0x2014 1) × (ours ≡ answer.Character 0x2015 1)

abbrev pub IsStroke : Reply → Reply → Type 0
IsStroke theirs ours = (theirs ≡ answer.Character 0xd0 1) × (ours ≡ answer.Character 0x110 1)

abbrev pub IsSmallG : ℕ → Reply → Reply → Type 0
IsSmallG x theirs ours =
    ((x ≡ 0xc267) × (is_refusal theirs ≡ true) × (ours ≡ answer.Character 0x123 2))
    ⊎ ((x ≡ 0xcb67) × (theirs ≡ answer.Character 0x123 2) × (ours ≡ answer.Refused 32))

abbrev pub ApartIn6937 : ℕ → Reply → Reply → Option Known → Type 0
ApartIn6937 x theirs ours (Some known.Bar) = IsBar theirs ours
ApartIn6937 x theirs ours (Some known.Stroke) = IsStroke theirs ours
ApartIn6937 x theirs ours (Some known.SmallG) = IsSmallG x theirs ours
ApartIn6937 x theirs ours None =
    (IsBar theirs ours → ⊥) × (IsStroke theirs ours → ⊥)
    × (IsSmallG x theirs ours → ⊥)
ApartIn6937 x theirs ours (Some known.Control) = ⊥
ApartIn6937 x theirs ours (Some known.Window) = ⊥
ApartIn6937 x theirs ours (Some known.Waits) = ⊥
ApartIn6937 x theirs ours (Some known.Tags) = ⊥

-- the first two bytes of a string as a number, by its digits and its number; of one byte, that
-- byte and 0
abbrev pub front_of : ℕ → ℕ → ℕ
front_of width n =
    cond (nat_le width 2) (n % 256 * 256) (cond (nat_le width 4) (n % 65536)
    (cond (nat_le width 6) (n / 256 % 65536) (n / 65536)))

abbrev pub within : ℕ → ℕ → ℕ → Bool
within low high n = nat_le low n && nat_le n high

-- they wait for more at first bytes f with which no coding begins
abbrev pub no_beginning : Set → ℕ → Bool
no_beginning set.Iso6937 f = nat_eq f 0xc900 || nat_eq f 0xcc00
no_beginning set.Iso8859v16 f = false
no_beginning set.Sami f = false
no_beginning set.Utf8 f =
    within 0xe080 0xe09f f || (within 0xeda0 0xedbf f || (within 0xf080 0xf08f f
    || within 0xf490 0xfdff f))

abbrev pub WaitsAt : Set → ℕ → Option Known → Type 0
WaitsAt s f (Some known.Waits) = no_beginning s f ≡ true
WaitsAt s f None = no_beginning s f ≡ false
WaitsAt s f (Some known.Control) = ⊥
WaitsAt s f (Some known.Window) = ⊥
WaitsAt s f (Some known.Bar) = ⊥
WaitsAt s f (Some known.Stroke) = ⊥
WaitsAt s f (Some known.SmallG) = ⊥
WaitsAt s f (Some known.Tags) = ⊥

-- in reading a string of so many digits, as a number x
abbrev pub Waits : Set → ℕ → ℕ → Reply → Reply → Type 0
Waits s width x theirs ours =
    (no_beginning s (front_of width x) ≡ true) × (theirs ≡ answer.Open)
    × (is_refusal ours ≡ true)

abbrev pub ReadsBeyond : Set → Reply → Reply → (ℕ → Type 0) → Type 0
ReadsBeyond s theirs ours Kind =
    (s ≢ set.Utf8)
    × ((c : ℕ) × (theirs ≡ answer.Character c 1) × (ours ≡ answer.Refused 31)
    × Kind c)

abbrev pub ApartInReading : Set → (width x : ℕ) → Reply → Reply → Option Known → Type 0
ApartInReading s width x theirs ours (Some known.Waits) = Waits s width x theirs ours
ApartInReading s width x theirs ours (Some known.Control) =
    ReadsBeyond s theirs ours (λ c. IsControl c (first_byte width x))
ApartInReading s width x theirs ours (Some known.Window) =
    ReadsBeyond s theirs ours (λ c. IsWindow s c (first_byte width x))
ApartInReading s width x theirs ours (Some known.Bar) = (s ≡ set.Iso6937) × IsBar theirs ours
ApartInReading s width x theirs ours (Some known.Stroke) = (s ≡ set.Iso6937)
    × IsStroke theirs ours
ApartInReading s width x theirs ours (Some known.SmallG) =
    (s ≡ set.Iso6937) × IsSmallG x theirs ours
ApartInReading s width x theirs ours (Some known.Tags) = ⊥
ApartInReading s width x theirs ours None =
    (Waits s width x theirs ours → ⊥) × (ReadsBeyond s theirs ours
    (λ c. IsControl c (first_byte width x)) → ⊥)
    × (ReadsBeyond s theirs ours (λ c. IsWindow s c (first_byte width x)) → ⊥)
    × (s ≡ set.Iso6937 → (IsBar theirs ours → ⊥) × (IsStroke theirs ours → ⊥)
    × (IsSmallG x theirs ours → ⊥))

-- in writing n
abbrev pub IsTag : Set → ℕ → Reply → Reply → Type 0
IsTag s n theirs ours =
    (s ≢ set.Utf8) × (0xe0000 ≤ n) × (n ≤ 0xe007f) × (theirs ≡ answer.Bytes 0 0)
    × (ours ≡ answer.NoCoding)

abbrev pub WritesBeyond : Set → Reply → Reply → (ℕ → Type 0) → Type 0
WritesBeyond s theirs ours Kind =
    (s ≢ set.Utf8) × (ours ≡ answer.NoCoding)
    × ((b : ℕ) × (theirs ≡ answer.Bytes b 1) × Kind b)

-- the byte b stands for the character c there, and for d here
abbrev pub Exchanged : (b c d n : ℕ) → Reply → Reply → Type 0
Exchanged b c d n theirs ours =
    ((n ≡ c) × (theirs ≡ answer.Bytes b 1) × (ours ≡ answer.NoCoding))
    ⊎ ((n ≡ d) × (theirs ≡ answer.NoCoding) × (ours ≡ answer.Bytes b 1))

abbrev pub WritesBar : ℕ → Reply → Reply → Type 0
WritesBar n theirs ours = Exchanged 0xd0 0x2014 0x2015 n theirs ours

abbrev pub WritesStroke : ℕ → Reply → Reply → Type 0
WritesStroke n theirs ours = Exchanged 0xe2 0xd0 0x110 n theirs ours

abbrev pub WritesSmallG : ℕ → Reply → Reply → Type 0
WritesSmallG n theirs ours =
    (n ≡ 0x123) × (theirs ≡ answer.Bytes 0xcb67 2) × (ours ≡ answer.Bytes 0xc267 2)

abbrev pub ApartInWriting : Set → ℕ → Reply → Reply → Option Known → Type 0
ApartInWriting s n theirs ours (Some known.Tags) = IsTag s n theirs ours
ApartInWriting s n theirs ours (Some known.Control) =
    WritesBeyond s theirs ours (λ b. IsControl n b)
ApartInWriting s n theirs ours (Some known.Window) =
    WritesBeyond s theirs ours (λ b. IsWindow s n b)
ApartInWriting s n theirs ours (Some known.Bar) = (s ≡ set.Iso6937) × WritesBar n theirs ours
ApartInWriting s n theirs ours (Some known.Stroke) = (s ≡ set.Iso6937)
    × WritesStroke n theirs ours
ApartInWriting s n theirs ours (Some known.SmallG) = (s ≡ set.Iso6937)
    × WritesSmallG n theirs ours
ApartInWriting s n theirs ours (Some known.Waits) = ⊥
ApartInWriting s n theirs ours None =
    (IsTag s n theirs ours → ⊥) × (WritesBeyond s theirs ours (λ b. IsControl n b) → ⊥)
    × (WritesBeyond s theirs ours (λ b. IsWindow s n b) → ⊥)
    × (s ≡ set.Iso6937
    → (WritesBar n theirs ours → ⊥) × (WritesStroke n theirs ours → ⊥)
    × (WritesSmallG n theirs ours → ⊥))

-- a question put to n, their answer and ours
abbrev pub ApartAt : Question → Set → ℕ → Reply → Reply → Option Known → Type 0
ApartAt (question.Read width) s n theirs ours k =
    ApartInReading s width n theirs ours k
ApartAt question.Write s n theirs ours k = ApartInWriting s n theirs ours k

-- a question of a vector, reading or writing n, and our answer to it
abbrev pub Apart : Vector → ℕ → Reply → Option Known → Type 0
Apart v n ours k = ApartAt v.question v.set n v.answer ours k
