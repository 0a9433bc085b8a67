-- What reading and writing answer.
use Rattle.std.specs.Prelude.{◌≡◌, ℕ, zero, suc, ◌≤◌, cond, List, length, take, Some}
use Rattle.std.specs.Prelude.{None, Ok, Err, Option, Result}
use Rattle.charset.specs.declared.SetRefusal.{SetRefusal}
use Rattle.charset.specs.declared.Reading.{Reading}
use Rattle.charset.specs.declared.Reading.TheVariants.{Found, Open}
use Rattle.charset.specs.Meaning.{Meaning, Codes, IsOpening, Unreadable, HasNoCoding}

abbrev pub ReadAnswer : Type 0
ReadAnswer = Result Reading SetRefusal

-- reading s answers the coding in front, else open if s is an opening, else its cause
abbrev pub Reads : Meaning → List ℕ → ReadAnswer → Type 0
Reads m s (Ok (Found c n)) = (n ≤ length s) × Codes m (take n s) c
Reads m s (Ok Open) = IsOpening m s
Reads m s (Err q) = Unreadable m s × (q ≡ m.causes s)

abbrev pub WriteAnswer : Type 0
WriteAnswer = Result (List ℕ) SetRefusal

-- a coding, or the cause of there being none
abbrev pub coded_or : SetRefusal → Option (List ℕ) → WriteAnswer
coded_or q None = Err q
coded_or q (Some s) = Ok s

-- the answer to writing c
abbrev pub writing : Meaning → ℕ → WriteAnswer
writing m c = coded_or (m.write_causes c) (m.codings.string c)

-- writing c answers its coding, else its cause
abbrev pub Writes : Meaning → ℕ → WriteAnswer → Type 0
Writes m c (Ok s) = m.codings.string c ≡ Some s
Writes m c (Err q) = HasNoCoding m c × (q ≡ m.write_causes c)

-- r, unless a character of length n is found
abbrev pub found_or : Option ℕ → ℕ → ReadAnswer → ReadAnswer
found_or None n r = r
found_or (Some c) n r = Ok (Found c n)

-- the answer of a string with no coding in front
abbrev pub without_coding : Meaning → List ℕ → ReadAnswer
without_coding m s = cond (m.openings s) (Ok Open) (Err (m.causes s))

-- the answer by a search: the shortest coding in front of at least n bytes and fewer than n + k,
-- else what s is
abbrev pub look : Meaning → List ℕ → ℕ → ℕ → ReadAnswer
look m s n zero = without_coding m s
look m s n (suc k) = found_or (m.codings.character (take n s)) n (look m s (suc n) k)

-- the answer to reading s: a coding has one to four bytes
unfoldable pub reading : Meaning → List ℕ → ReadAnswer
reading m s = look m s 1 4

-- reading s has no answer but r
abbrev pub OnlyAnswer : Meaning → List ℕ → ReadAnswer → Type 0
OnlyAnswer m s r = (a : ReadAnswer) → Reads m s a → a ≡ r

-- r is the answer of every string whose first four bytes are those of s
abbrev pub FourBytesDecide : Meaning → List ℕ → ReadAnswer → Type 0
FourBytesDecide m s r = (t : List ℕ) → take 4 t ≡ take 4 s → Reads m t r
