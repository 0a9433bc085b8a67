-- Strings of at most four bytes.
use Rattle.std.specs.Prelude.{ℕ, ◌<◌, ◌≤◌, cond, List, [], ◌∷◌, ◌++◌, length}
use Rattle.std.specs.Prelude.{Some, None, Option, nat_lt}
use Rattle.std.specs.List.{AllByRecursion}

-- each number of s is a byte
abbrev pub AreBytes : List ℕ → Type 0
AreBytes s = AllByRecursion (λ b. b < 256) s

-- how many bytes a coding has
abbrev pub OneToFour : List ℕ → Type 0
OneToFour s = (0 < length s) × (length s ≤ 4)

-- a string with one byte more, if it then has at most four
abbrev pub with_byte : List ℕ → ℕ → Option (List ℕ)
with_byte s b = cond (nat_lt (length s) 4) (Some (s ++ b ∷ [])) None

-- a string, if it has a byte
abbrev pub unless_empty : List ℕ → Option (List ℕ)
unless_empty [] = None
unless_empty (b ∷ s) = Some (b ∷ s)
