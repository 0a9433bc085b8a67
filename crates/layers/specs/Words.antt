-- The layers' codings, openings and causes in plain words.
use Rattle.std.specs.Prelude.{◌≡◌, ℕ, ◌+◌, ◌-◌, ◌%◌, ◌<◌, ◌≤◌, Bool}
use Rattle.std.specs.Prelude.{true, false, cond, ◌⊎◌, List, [], ◌∷◌, ◌++◌, map}
use Rattle.std.specs.Prelude.{length, Ok, Err, ◌==◌, ◌≢◌, count_ones, slice_index_or}
use Rattle.std.specs.List.{AllByRecursion}
use Rattle.charset.specs.declared.Reading.TheVariants.{Found}
use Rattle.charset.specs.Answers.{Reads, Writes}
use Rattle.charset.specs.Strings.{AreBytes}
use Rattle.charset.specs.Meaning.{Meaning, Codes, IsOpening, Unreadable, HasNoCoding}
use Rattle.layers.specs.declared.cause.Cause.TheVariants.{OddParity, NotShifted, TooLong, NotListed}
use Rattle.layers.specs.Causes.{refusal}
use Rattle.layers.specs.Depth.{up}
use Rattle.layers.specs.CharacterList.{on_list}
use Rattle.layers.specs.Layers.{parity, shift, sub, controls}

-- a byte under 80 with its parity
abbrev pub in_parity : ℕ → ℕ
in_parity b = cond (count_ones b % 2 == 0) b (b + 0x80)

-- each byte of t has seven bits
abbrev pub AreSevenBit : List ℕ → Type 0
AreSevenBit t = AllByRecursion (λ b. b < 0x80) t

-- s is t with parity
abbrev pub InParity : List ℕ → List ℕ → Type 0
InParity t s = AreSevenBit t × (s ≡ map in_parity t)

-- x has an odd number of ones
abbrev pub HasOddParity : ℕ → Type 0
HasOddParity x = count_ones x % 2 ≡ 1

-- b is under 80 and no 19: it stays
abbrev pub Stays : (b : ℕ) → (rest s : List ℕ) → Type 0
Stays b rest s = (b < 0x80) × (b ≢ 0x19) × (s ≡ b ∷ rest)

-- b is a byte from A0 up: it becomes 19 and that byte less 80
abbrev pub IsShifted : (b : ℕ) → (rest s : List ℕ) → Type 0
IsShifted b rest s = (0xa0 ≤ b) × (b < 0x100) × (s ≡ 0x19 ∷ (b - 0x80) ∷ rest)

-- s is t shifted
abbrev pub Shifts : List ℕ → List ℕ → Type 0
Shifts [] s = s ≡ []
Shifts (b ∷ t) s =
    (rest : List ℕ) × Shifts t rest × (Stays b rest s ⊎ IsShifted b rest s)

-- s is t shifted, with or without one more 19
abbrev pub BeginsShifted : List ℕ → List ℕ → Type 0
BeginsShifted t s = Shifts t s ⊎ ((p : List ℕ) × (s ≡ p ++ 0x19 ∷ []) × Shifts t p)

-- x is from 80 up, or below 20 after a 19 that is to shift it
abbrev pub CannotFollow : List ℕ → ℕ → Type 0
CannotFollow p x =
    (0x80 ≤ x) ⊎ ((q t : List ℕ) × (p ≡ q ++ 0x19 ∷ []) × Shifts t q × (x < 0x20))

-- p and x stand for four bytes that are open
abbrev pub OpenAtFour : Meaning → List ℕ → ℕ → Type 0
OpenAtFour m p x =
    (length p ≡ 3) × (t : List ℕ) × IsOpening m t × BeginsShifted t (p ++ x ∷ [])

-- p and x are, in a form, a string that has a cause below
abbrev pub FailsBelow : Meaning → (InForm : List ℕ → List ℕ → Type 0) → List ℕ → ℕ
    → Type 0
FailsBelow m InForm p x = (t : List ℕ) × InForm t (p ++ x ∷ []) × Unreadable m t

-- a character that is not on the list stands in front
abbrev pub FindsUnlisted : List ℕ → Meaning → List ℕ → Type 0
FindsUnlisted ds m s = (c n : ℕ) × Reads m s (Ok (Found c n)) × (on_list ds c ≡ false)

-- s is an opening p, a byte x of which Fault p x holds, and more
abbrev pub FailsAt : Meaning → (List ℕ → ℕ → Type 0) → List ℕ → Type 0
FailsAt m Fault s =
    (p rest : List ℕ) × (x : ℕ) × (s ≡ p ++ x ∷ rest) × IsOpening m p × Fault p x

-- c has a coding below, with a byte of which Fault holds
abbrev pub HasByte : (Fault : ℕ → Type 0) → Meaning → ℕ → Type 0
HasByte Fault m c =
    (p rest : List ℕ) × (b : ℕ) × Codes m (p ++ b ∷ rest) c × Fault b

-- b is from 80 up: parity cannot write it
abbrev pub IsEightBit : ℕ → Type 0
IsEightBit b = 0x80 ≤ b

-- b is 19, or from 80 to 9F: shift cannot write it
abbrev pub IsForbidden : ℕ → Type 0
IsForbidden b = (b ≡ 0x19) ⊎ ((0x80 ≤ b) × (b < 0xa0))

-- c has a coding below that is over four bytes once it is shifted; none of its bytes is forbidden,
-- since it can be shifted
abbrev pub ShiftsTooLong : Meaning → ℕ → Type 0
ShiftsTooLong m c = (t s : List ℕ) × Codes m t c × Shifts t s × (4 < length s)

-- c has a coding below, but is not on the list
abbrev pub IsUnlisted : List ℕ → Meaning → ℕ → Type 0
IsUnlisted ds m c = (s : List ℕ) × Codes m s c × (on_list ds c ≡ false)

-- what the parity of a set means
pub record ParityMeaning (m : Meaning) : Type 0 where
  pub codes : (s : List ℕ) (c : ℕ) → Codes (parity m) s c
      → (t : List ℕ) × InParity t s × Codes m t c
  pub coded_by : (s t : List ℕ) (c : ℕ) → InParity t s → Codes m t c
      → Codes (parity m) s c
  pub opens : (s : List ℕ) → IsOpening (parity m) s
      → (t : List ℕ) × InParity t s × IsOpening m t
  pub opened_by : (s t : List ℕ) → InParity t s → IsOpening m t → IsOpening (parity m) s
  -- a byte with an odd number of ones, after an opening
  pub odd_parity : (p rest : List ℕ) (x : ℕ) → IsOpening (parity m) p → HasOddParity x
      → (parity m).causes (p ++ x ∷ rest) ≡ refusal OddParity
  pub cause_below : (s t rest : List ℕ) → length s ≤ 4 → Unreadable m t → InParity t s
      → (parity m).causes (s ++ rest) ≡ up (m.causes t)
  -- there is no other cause
  pub causes_only : (s : List ℕ) → AreBytes s → Unreadable (parity m) s
      → FailsAt (parity m) (λ p x. HasOddParity x ⊎ FailsBelow m InParity p x) s
  -- a character that cannot be written below, and one whose coding there has a byte from 80 up
  pub unwritten_below : (c : ℕ) → HasNoCoding m c
      → Writes (parity m) c (Err (up (m.write_causes c)))
  pub eight_bits : (c : ℕ) → HasByte IsEightBit m c
      → Writes (parity m) c (Err (refusal OddParity))
  -- there is no other cause of writing
  pub write_causes_only : (c : ℕ) → HasNoCoding (parity m) c
      → HasNoCoding m c ⊎ HasByte IsEightBit m c

-- what the shift of a set means
pub record ShiftMeaning (m : Meaning) : Type 0 where
  pub codes : (s : List ℕ) (c : ℕ) → Codes (shift m) s c
      → (t : List ℕ) × Shifts t s × Codes m t c × (length s ≤ 4)
  pub coded_by : (s t : List ℕ) (c : ℕ) → Shifts t s → Codes m t c → length s ≤ 4
      → Codes (shift m) s c
  pub opens : (s : List ℕ) → IsOpening (shift m) s
      → (length s ≤ 3) × ((t : List ℕ) × IsOpening m t × BeginsShifted t s)
  pub opened_by : (s t : List ℕ) → length s ≤ 3 → IsOpening m t → BeginsShifted t s
      → IsOpening (shift m) s
  -- a byte that cannot go on after an opening
  pub not_shifted : (p rest : List ℕ) (x : ℕ) → IsOpening (shift m) p → CannotFollow p x
      → (shift m).causes (p ++ x ∷ rest) ≡ refusal NotShifted
  -- open after four bytes
  pub too_long : (s t rest : List ℕ) → length s ≡ 4 → IsOpening m t → BeginsShifted t s
      → (shift m).causes (s ++ rest) ≡ refusal TooLong
  -- a cause from below
  pub cause_below : (s t rest : List ℕ) → length s ≤ 4 → Unreadable m t → Shifts t s
      → (shift m).causes (s ++ rest) ≡ up (m.causes t)
  -- there is no other cause
  pub causes_only : (s : List ℕ) → Unreadable (shift m) s
      → FailsAt (shift m)
      (λ p x. CannotFollow p x ⊎ (OpenAtFour m p x ⊎ FailsBelow m Shifts p x)) s
  -- a character that cannot be written below, one whose coding there has a forbidden byte, and one
  -- whose coding is too long
  pub unwritten_below : (c : ℕ) → HasNoCoding m c
      → Writes (shift m) c (Err (up (m.write_causes c)))
  pub forbidden_byte : (c : ℕ) → HasByte IsForbidden m c
      → Writes (shift m) c (Err (refusal NotShifted))
  pub shifts_too_long : (c : ℕ) → ShiftsTooLong m c
      → Writes (shift m) c (Err (refusal TooLong))
  -- there is no other cause of writing
  pub write_causes_only : (c : ℕ) → HasNoCoding (shift m) c
      → HasNoCoding m c ⊎ (HasByte IsForbidden m c ⊎ ShiftsTooLong m c)

-- what the subrepertoire of a set by a list means
pub record SubMeaning (ds : List ℕ) (m : Meaning) : Type 0 where
  pub codes : (s : List ℕ) (c : ℕ) → Codes (sub ds m) s c
      → Codes m s c × (on_list ds c ≡ true)
  pub coded_by : (s : List ℕ) (c : ℕ) → Codes m s c → on_list ds c ≡ true
      → Codes (sub ds m) s c
  pub opens : (s : List ℕ) → (sub ds m).openings s ≡ m.openings s
  -- a character off the list
  pub not_listed : (s : List ℕ) (c n : ℕ) → Reads m s (Ok (Found c n))
      → on_list ds c ≡ false → (sub ds m).causes s ≡ refusal NotListed
  pub cause_below : (s : List ℕ) → Unreadable m s → (sub ds m).causes s ≡ up (m.causes s)
  -- there is no other cause
  pub causes_only : (s : List ℕ) → Unreadable (sub ds m) s
      → Unreadable m s ⊎ FindsUnlisted ds m s
  -- a character that cannot be written below, listed or not, and one off the list that can
  pub unwritten_below : (c : ℕ) → HasNoCoding m c
      → Writes (sub ds m) c (Err (up (m.write_causes c)))
  pub unlisted : (c : ℕ) → IsUnlisted ds m c → Writes (sub ds m) c (Err (refusal NotListed))
  -- there is no other cause of writing
  pub write_causes_only : (c : ℕ) → HasNoCoding (sub ds m) c
      → HasNoCoding m c ⊎ IsUnlisted ds m c

-- c is chosen, and below both reading it alone and writing it give a cause
pub record Added (chosen : List Bool) (m : Meaning) (c : ℕ) : Type 0 where
  pub control : c < 0x20
  pub choice : slice_index_or chosen c false ≡ true
  pub unread : Unreadable m (c ∷ [])
  pub unwritten : HasNoCoding m c

-- what a set with the chosen controls means
pub record ControlsMeaning (chosen : List Bool) (m : Meaning) : Type 0 where
  pub codes : (s : List ℕ) (c : ℕ) → Codes (controls chosen m) s c
      → Codes m s c ⊎ ((s ≡ c ∷ []) × Added chosen m c)
  pub coded_by : (s : List ℕ) (c : ℕ) → Codes m s c → Codes (controls chosen m) s c
  pub control_coded : (c : ℕ) → Added chosen m c → Codes (controls chosen m) (c ∷ []) c
  pub opens : (s : List ℕ) → (controls chosen m).openings s ≡ m.openings s
  -- every cause is one from below
  pub cause_below : (s : List ℕ) → (controls chosen m).causes s ≡ up (m.causes s)
  -- what is refused here is refused below
  pub causes_only : (s : List ℕ) → Unreadable (controls chosen m) s → Unreadable m s
  -- a character that cannot be written below and is not added has the cause from below
  pub unwritten_below : (c : ℕ) → HasNoCoding m c → (Added chosen m c → ⊥)
      → Writes (controls chosen m) c (Err (up (m.write_causes c)))
  -- no other character has a cause of writing
  pub write_causes_only : (c : ℕ) → HasNoCoding (controls chosen m) c
      → HasNoCoding m c × (Added chosen m c → ⊥)
