-- Filling a list: which numbers make one, and on what grounds others are refused.
use Rattle.std.specs.Prelude.{◌≡◌, ℕ, ◌<◌, ◌≤◌, true, false, ◌⊎◌, List}
use Rattle.std.specs.Prelude.{length, Some, None, ◌≢◌}
use Rattle.charset.specs.Meaning.{Codings}
use Rattle.layers.specs.declared.list.ListRefusal.{ListRefusal}
use Rattle.layers.specs.CharacterList.{required, on_list, rises_at, Rising, Sound}
use Rattle.layers.specs.Refusals.{Told, list_told}
use Rattle.layers.specs.declared.list.TheConstants.{MOST_CHARACTERS}

-- i is the first index at which the numbers do not rise
pub record FirstNotRising (xs : List ℕ) (i : ℕ) : Type 0 where
  pub inside : i < length xs
  pub before : (j : ℕ) → j < i → rises_at xs j ≡ true
  pub here : rises_at xs i ≡ false

-- c is the smallest required character that is not listed
pub record FirstMissing (xs : List ℕ) (c : ℕ) : Type 0 where
  pub needed : on_list required c ≡ true
  pub absent : on_list xs c ≡ false
  pub before : (d : ℕ) → on_list required d ≡ true → d < c → on_list xs d ≡ true

-- every listed character has a coding
abbrev pub AllCoded : Codings → List ℕ → Type 0
AllCoded k xs = (c : ℕ) → on_list xs c ≡ true → k.string c ≢ None

-- c is the smallest listed character that has no coding
pub record FirstUncoded (k : Codings) (xs : List ℕ) (c : ℕ) : Type 0 where
  pub listed : on_list xs c ≡ true
  pub uncoded : k.string c ≡ None
  pub before : (d : ℕ) → on_list xs d ≡ true → d < c → k.string d ≢ None

-- the numbers make a list of characters that the set can code
pub record Acceptable (k : Codings) (xs : List ℕ) : Type 0 where
  pub sound : Sound xs
  pub coded : AllCoded k xs

-- what each refusal says of the numbers, by its number and value
abbrev pub HasTooMany : List ℕ → Told → Type 0
HasTooMany xs t = (t ≡ record { number = 10; value = None }) × (MOST_CHARACTERS < length xs)

abbrev pub IsNotIncreasing : List ℕ → Told → Type 0
IsNotIncreasing xs t =
    (i : ℕ) × (t ≡ record { number = 11; value = Some i }) × (length xs ≤ MOST_CHARACTERS)
    × FirstNotRising xs i

abbrev pub Lacking : List ℕ → Told → Type 0
Lacking xs t =
    (c : ℕ) × (t ≡ record { number = 12; value = Some c }) × (length xs ≤ MOST_CHARACTERS)
    × Rising xs
    × FirstMissing xs c

abbrev pub WithoutCoding : Codings → List ℕ → Told → Type 0
WithoutCoding k xs t =
    (c : ℕ) × (t ≡ record { number = 13; value = Some c }) × Sound xs × FirstUncoded k xs c

-- the ground on which numbers are refused
abbrev pub Ground : Codings → List ℕ → Told → Type 0
Ground k xs t =
    HasTooMany xs t ⊎ (IsNotIncreasing xs t ⊎ (Lacking xs t ⊎ WithoutCoding k xs t))

-- the refusal has its ground
abbrev pub HasGround : Codings → List ℕ → ListRefusal → Type 0
HasGround k xs why = Ground k xs (list_told why)

-- only numbers that fit are refused for want of memory
abbrev pub WithoutMemory : Codings → List ℕ → Told → Type 0
WithoutMemory k xs t = (t ≡ record { number = 0; value = None }) × Acceptable k xs

-- the refusal has its ground, or is for want of memory
abbrev pub RefusedAs : Codings → List ℕ → ListRefusal → Type 0
RefusedAs k xs why = HasGround k xs why ⊎ WithoutMemory k xs (list_told why)

-- numbers that fit have no ground, and no numbers have two
pub record OneAnswer (k : Codings) (xs : List ℕ) : Type 0 where
  pub fit : Acceptable k xs → (t : Told) → Ground k xs t → ⊥
  pub only : (t u : Told) → Ground k xs t → Ground k xs u → t ≡ u
