-- Characters in codings, one behind the other, and that they can be read in one way only.
use Rattle.std.specs.Prelude.{◌≡◌, ℕ, List, [], ◌∷◌, ◌++◌, Some}
use Rattle.charset.specs.Meaning.{Meaning, IsOpening}
use Rattle.charset.specs.Answers.{ReadAnswer, Reads, OnlyAnswer, FourBytesDecide}

-- s is the characters in the codings of m, one behind the other
abbrev pub Spells : Meaning → List ℕ → List ℕ → Type 0
Spells m [] s = s ≡ []
Spells m (c ∷ cs) s =
    (a b : List ℕ) × (m.codings.string c ≡ Some a) × (s ≡ a ++ b) × Spells m cs b

-- s is the characters in codings, then an opening
pub record Decodes (m : Meaning) (s chars opening : List ℕ) : Type 0 where
  pub spelt : List ℕ
  pub spells : Spells m chars spelt
  pub opens : IsOpening m opening
  pub parts : s ≡ spelt ++ opening

-- no string is characters in codings and then an opening in two ways
abbrev pub DecodesOnce : Meaning → Type 0
DecodesOnce m =
    (s cs ds h k : List ℕ) → Decodes m s cs h → Decodes m s ds k → (cs ≡ ds) × (h ≡ k)

-- what the laws say of r, the answer to reading s
pub record ReadByLaws (m : Meaning) (s : List ℕ) (r : ReadAnswer) : Type 0 where
  pub reads : Reads m s r
  pub only_answer : OnlyAnswer m s r
  pub four_bytes_decide : FourBytesDecide m s r
  pub decodes_once : DecodesOnce m
