-- Codings that were met, kept with the coding that each becomes.
use Rattle.std.specs.Prelude.{◌≡◌, ℕ, ◌⊎◌, cond, List, Some, None, Ok, Option}
use Rattle.std.specs.Prelude.{bytes_eq, slice_index_or, slice_set}
use Rattle.charset.specs.Meaning.{Meaning}
use Rattle.conversion.specs.Becomes.{becomes}
use Rattle.conversion.specs.Next.{ComesNext}
use Rattle.conversion.specs.Plain.{plain_byte, Known}
use Rattle.conversion.specs.declared.met.Met.{Met}
use Rattle.conversion.specs.declared.met.MetCodings.{MetCodings}

-- what is kept of a coding at a place
abbrev pub if_this : {N : ℕ} → List ℕ → Option (Met N) → Option (List ℕ)
if_this s None = None
if_this s (Some m) = cond (bytes_eq m.bytes s) (Some m.coding) None

abbrev pub found_in : {N : ℕ} → List (Option (Met N)) → ℕ → List ℕ → Option (List ℕ)
found_in kept place s = if_this s (slice_index_or kept place None)

-- with a coding kept at a place, in place of what was kept there
abbrev pub kept_with : {N : ℕ} → List (Option (Met N)) → ℕ → (s v : List ℕ)
    → List (Option (Met N))
kept_with kept place s v = slice_set kept place (Some (record { bytes = s; coding = v }))

-- that the coding s becomes v is kept somewhere
abbrev pub KeptIn : {N : ℕ} → List (Option (Met N)) → (s v : List ℕ) → Type 0
KeptIn kept s v =
    (i : ℕ) × (slice_index_or kept i None ≡ Some (record { bytes = s; coding = v }))

abbrev pub Kept : MetCodings → (s v : List ℕ) → Type 0
Kept m s v = KeptIn m.pairs.kept s v ⊎ KeptIn m.triples.kept s v

-- what is kept of longer codings is right for two sets
abbrev pub RightCodings : Meaning → Meaning → MetCodings → Type 0
RightCodings S T m = (s v : List ℕ) → Kept m s v → becomes S T s ≡ Some v

-- what is kept is right for two sets
abbrev pub Right : Meaning → Meaning → MetCodings → Type 0
Right S T m = Known S T m.singles × RightCodings S T m

-- what is found of a byte is what it becomes
abbrev pub IsPlain : Meaning → Meaning → ℕ → Option ℕ → Type 0
IsPlain S T b None = Unit {0}
IsPlain S T b (Some t) = plain_byte S T b ≡ Some t

-- what is found is what comes next in the input
abbrev pub FoundNext : Meaning → Meaning → List ℕ → Option (List ℕ × ℕ) → Type 0
FoundNext S T input None = Unit {0}
FoundNext S T input (Some p) = ComesNext S T input (Ok (Some p))
