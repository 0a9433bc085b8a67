-- Characters from one set into another, one after the other.
use Rattle.std.specs.Prelude.{◌≡◌, ℕ, ◌≤◌, List, ◌++◌, length, take, drop}
use Rattle.charset.specs.Meaning.{Meaning}
use Rattle.conversion.specs.declared.Run.{Run}
use Rattle.conversion.specs.Stops.{End, Leads, Reaches}

-- characters that fit lead to that end; they stand in front of the output, whose rest is as it was;
-- and the run counts them
pub record Runs (S T : Meaning) (input out out' : List ℕ) (r : Run) (end : End) : Type 0 where
  pub chars : List ℕ
  pub source : List ℕ
  pub target : List ℕ
  pub reaches : Reaches S T input (length out) end chars source target
  pub left : out' ≡ target ++ drop (length target) out
  pub characters : r.characters ≡ length chars
  pub read : r.read ≡ length source
  pub written : r.written ≡ length target

-- so many characters that fit were read up to a place in the input and written up to a place in the
-- output, whose rest is as it was
pub record Far (S T : Meaning) (input out out' : List ℕ) (count at put : ℕ) : Type 0 where
  pub chars : List ℕ
  pub counted : count ≡ length chars
  pub few : count ≤ at
  pub inside : at ≤ length input
  pub room : put ≤ length out
  pub leads : Leads S T input (length out) chars (take at input) (take put out') (drop at input)
  pub rest : drop put out' ≡ drop put out
  pub size : length out' ≡ length out

-- so many characters that fit were read from one byte each, and written as one byte each
abbrev pub ByteForByte : Meaning → Meaning → List ℕ → (out out' : List ℕ) → ℕ
    → Type 0
ByteForByte S T input out out' n = Far S T input out out' n n n
