-- A character set by its meaning, and the laws of every set.
-- A string is a list of numbers; the laws say that those of codings and openings are bytes.
use Rattle.std.specs.Prelude.{◌≡◌, ℕ, ◌<◌, ◌≤◌, Bool, true, false, List, []}
use Rattle.std.specs.Prelude.{length, take, Some, None, Option}
use Rattle.charset.specs.declared.SetRefusal.{SetRefusal}
use Rattle.charset.specs.Strings.{AreBytes, OneToFour}

-- the codings in both directions: the character that a whole string codes, and the string that
-- codes a character
pub record Codings : Type 0 where
  pub character : List ℕ → Option ℕ
  pub string : ℕ → Option (List ℕ)

-- a character set: its codings, whether a string is an opening, the cause of a string that cannot
-- be read, and that of a character that cannot be written
pub record Meaning : Type 0 where
  pub codings : Codings
  pub openings : List ℕ → Bool
  pub causes : List ℕ → SetRefusal
  pub write_causes : ℕ → SetRefusal

-- the four parts as one
abbrev pub meaning : Codings → (List ℕ → Bool) → (List ℕ → SetRefusal)
    → (ℕ → SetRefusal) → Meaning
meaning k o q w = record { codings = k; openings = o; causes = q; write_causes = w }

-- the meaning of x, by what says each part of it
abbrev pub meaning_of : {X : Type 0} → (X → Codings) → (X → List ℕ → Bool)
    → (X → List ℕ → SetRefusal) → (X → ℕ → SetRefusal) → X → Meaning
meaning_of k o q w x = meaning (k x) (o x) (q x) (w x)

-- s is the coding of c
abbrev pub Codes : Meaning → List ℕ → ℕ → Type 0
Codes m s c = m.codings.character s ≡ Some c

-- s is an opening
abbrev pub IsOpening : Meaning → List ℕ → Type 0
IsOpening m s = m.openings s ≡ true

-- no beginning of s is a coding
abbrev pub NoFront : Meaning → List ℕ → Type 0
NoFront m s = (n c : ℕ) → Codes m (take n s) c → ⊥

-- s is no opening and has no coding in front: the strings that have a cause
abbrev pub Unreadable : Meaning → List ℕ → Type 0
Unreadable m s = NoFront m s × (m.openings s ≡ false)

-- c has no coding: the numbers that have a cause of writing
abbrev pub HasNoCoding : Meaning → ℕ → Type 0
HasNoCoding m c = m.codings.string c ≡ None

-- c is a code point, up to U+10FFFF
abbrev pub IsCodePoint : ℕ → Type 0
IsCodePoint c = c ≤ 0x10ffff

-- a cause and its depth are a byte each
abbrev pub IsTwoBytes : SetRefusal → Type 0
IsTwoBytes q = (q.cause < 256) × (q.depth < 256)

-- the laws of every set
pub record Laws (m : Meaning) : Type 0 where
  -- one to one: a character has at most one coding, and a string codes at most one character
  pub written : (c : ℕ) (s : List ℕ) → m.codings.string c ≡ Some s → Codes m s c
  pub read : (s : List ℕ) (c : ℕ) → Codes m s c → m.codings.string c ≡ Some s
  -- a coding has one to four bytes and codes a code point
  pub sized : (s : List ℕ) (c : ℕ) → Codes m s c → OneToFour s
  pub bytes : (s : List ℕ) (c : ℕ) → Codes m s c → AreBytes s
  pub characters : (s : List ℕ) (c : ℕ) → Codes m s c → IsCodePoint c
  -- an opening has at most three bytes, and the empty string is one
  pub empty_opens : IsOpening m []
  pub opening_sized : (s : List ℕ) → IsOpening m s → length s ≤ 3
  pub opening_bytes : (s : List ℕ) → IsOpening m s → AreBytes s
  -- no coding is the beginning of a different coding
  pub coding_alone : (s : List ℕ) (c d n : ℕ) → Codes m s c → Codes m (take n s) d
      → take n s ≡ s
  -- every proper beginning of a coding is an opening, and so is every beginning of an opening
  pub coding_begins : (s : List ℕ) (c n : ℕ) → Codes m s c → n < length s
      → IsOpening m (take n s)
  pub opening_begins : (s : List ℕ) (n : ℕ) → IsOpening m s → IsOpening m (take n s)
  -- no opening begins with a coding
  pub opening_bare : (s : List ℕ) → IsOpening m s → NoFront m s
  -- a cause is two bytes, and a string has the cause of its shortest beginning that has one
  pub cause_sized : (s : List ℕ) → Unreadable m s → IsTwoBytes (m.causes s)
  pub cause_stays : (s : List ℕ) (n : ℕ) → Unreadable m (take n s)
      → m.causes s ≡ m.causes (take n s)
  -- the cause of a number that has no coding is two bytes too
  pub write_cause_sized : (c : ℕ) → HasNoCoding m c → IsTwoBytes (m.write_causes c)
