-- What the front of a string stands for below, and a string below as it is written.
use Rattle.std.specs.Prelude.{◌≡◌, ℕ, false, List, take, Some, None, Option, Ok, Err}
use Rattle.std.specs.Prelude.{option_and_then, sum_by}
use Rattle.charset.specs.Strings.{with_byte}
use Rattle.layers.specs.declared.recoding.moves.WrittenByte.{WrittenByte}
use Rattle.layers.specs.declared.recoding.moves.WrittenByte.TheVariants.{One, Two}
use Rattle.layers.specs.declared.recoded.scan.Scan.{Scan}
use Rattle.charset.specs.Answers.{WriteAnswer}
use Rattle.layers.specs.Depth.{own}
use Rattle.layers.specs.Recoding.{Recoding, below, ends, is_broken, in_form, at_most_four}
use Rattle.layers.specs.Recoding.{form_cause}

-- found says what the first four bytes of s stand for below, and whether a byte broke them off
pub record Scans (r : Recoding) (s : List ℕ) (found : Scan) : Type 0 where
  pub stands : found.below ≡ below r false (take 4 s)
  pub breaks : found.broken ≡ is_broken (ends r false (take 4 s))

abbrev pub form_size : Option WrittenByte → ℕ
form_size (Some (One x)) = 1
form_size (Some (Two x y)) = 2
form_size None = 0

-- how many bytes a string below is written in
abbrev pub size_of : Recoding → List ℕ → ℕ
size_of r t = sum_by (λ b. form_size (r.form b)) t

-- a string with a byte below behind, as it is written, if it then has at most four bytes
abbrev pub extended : List ℕ → WrittenByte → Option (List ℕ)
extended u (One x) = with_byte u x
extended u (Two x y) = option_and_then (λ v. with_byte v y) (with_byte u x)

-- the same behind a string, or nothing where that is over four bytes already
abbrev pub extended_if : Option (List ℕ) → WrittenByte → Option (List ℕ)
extended_if o f = option_and_then (λ u. extended u f) o

-- a string below as it is written, if it takes at most four bytes, or why it has no coding
abbrev pub Recodes : Recoding → List ℕ → WriteAnswer → Type 0
Recodes r t (Ok s) = at_most_four (in_form r t) ≡ Some s
Recodes r t (Err q) =
    (at_most_four (in_form r t) ≡ None) × (q ≡ own (form_cause r (in_form r t)))
