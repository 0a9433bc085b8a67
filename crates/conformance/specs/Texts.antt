-- Answers as they are printed.
use Rattle.std.specs.Prelude.{ℕ, ◌-◌, ◌*◌, ◌^◌, min, true, List, ◌++◌, length}
use Rattle.std.specs.Prelude.{replicate, codes}
use Rattle.std.specs.Fmt.{digits, decimal}
use Rattle.conformance.specs.declared.answer.Reply.{Reply}
use Rattle.conformance.specs.declared.answer.Reply.TheVariants as answer

-- a number in hexadecimal, with zeros in front up to a width
abbrev pub hex_of : (width n : ℕ) → List ℕ
hex_of width n = replicate (width - length (digits 16 true n)) 48 ++ digits 16 true n

abbrev pub answer_text : Reply → List ℕ
answer_text (answer.Character c n) = codes "U+" ++ (hex_of 4 c ++ (codes " of " ++ decimal n))
answer_text answer.Open = codes "open"
answer_text (answer.Refused q) = codes "refused " ++ decimal q
answer_text (answer.Bytes b n) = hex_of (min (n * 2) (2 ^ 64 - 1)) b
answer_text answer.NoCoding = codes "none"
