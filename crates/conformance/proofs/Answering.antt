-- What a set answers to a question is one answer.
use Rattle.std.proofs.Common.{◌≡◌, ℕ, ◌≤◌, ◌∙◌, ap, sym, subst, arith}
use Rattle.charset.proofs.FrontLemmas.{reading_is, writing_is}
use Rattle.charset.specs.Meaning.{Meaning, Laws}
use Rattle.conformance.specs.declared.answer.Reply.{Reply}
use Rattle.conformance.specs.declared.vector.Question.{Question}
use Rattle.conformance.specs.declared.vector.Question.TheVariants as question
use Rattle.conformance.specs.declared.vector.Vector.{Vector}
use Rattle.conformance.specs.Held.{Agree, AnsweredBy, AllAgree}
use Rattle.conformance.specs.Agreement.{told_reading, told_coding, Tells, answer_to, string_of}

pub tells_answer : {m : Meaning} → Laws m → (q : Question) (n : ℕ) (r : Reply)
    → Tells m q n r → answer_to m q n ≡ r
tells_answer l (question.Read width) n r (a, reads, same) =
    ap told_reading (reading_is l (string_of width n) a reads) ∙ sym same
tells_answer {m} l question.Write n r (a, writes, same) =
    ap told_coding (writing_is m n a writes) ∙ sym same

-- where our answer to all numbers of a run is r, and they agree, so does r
pub agree_alike : (v : Vector) (from to : ℕ) (r : Reply) → from ≤ to
    → AnsweredBy v from to r → AllAgree v from to → Agree r v.answer
agree_alike v from to r some answered all =
    subst (λ q. Agree q v.answer) (answered from (omega arith) some) (all from (omega arith) some)
