-- What the coding of a character in one set becomes in another.
use Rattle.std.specs.Prelude.{List, ℕ, Option, option_and_then}
use Rattle.charset.specs.Meaning.{Meaning}

-- the coding in T of the character that the string s codes in S, if both are there
abbrev pub becomes : Meaning → Meaning → List ℕ → Option (List ℕ)
becomes S T s = option_and_then T.codings.string (S.codings.character s)
