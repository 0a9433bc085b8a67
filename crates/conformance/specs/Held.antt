-- When our answers are held against theirs.
use Rattle.std.specs.Prelude.{◌≡◌, ℕ, true, ◌⊎◌, ◌≤◌, Some}
use Rattle.conformance.specs.declared.answer.Reply.{Reply}
use Rattle.conformance.specs.declared.known.Known.{Known}
use Rattle.conformance.specs.declared.vector.Vector.{Vector}
use Rattle.conformance.specs.Agreement.{Tells, answer_to, is_refusal}
use Rattle.conformance.specs.Differences.{Apart}
use Rattle.conformance.specs.Meanings.{named_meaning}

-- two answers are the same, or both refusals
abbrev pub Agree : Reply → Reply → Type 0
Agree r q = (r ≡ q) ⊎ ((is_refusal r ≡ true) × (is_refusal q ≡ true))

-- what our set answers to n
abbrev pub our_answer : Vector → ℕ → Reply
our_answer v n = answer_to (named_meaning v.set) v.question n

-- our answer to each number of a run is r
abbrev pub AnsweredBy : Vector → (from to : ℕ) → Reply → Type 0
AnsweredBy v from to r = (n : ℕ) → from ≤ n → n ≤ to → our_answer v n ≡ r

-- our answer to each number of a run agrees with theirs
abbrev pub AllAgree : Vector → (from to : ℕ) → Type 0
AllAgree v from to = (n : ℕ) → from ≤ n → n ≤ to → Agree (our_answer v n) v.answer

-- an answer of ours to n agrees with theirs, or differs in a known way
abbrev pub Accounted : Vector → ℕ → Reply → Type 0
Accounted v n ours = Agree ours v.answer ⊎ ((k : Known) × Apart v n ours (Some k))

-- so does what our set answers to n
abbrev pub HeldAt : Vector → ℕ → Type 0
HeldAt v n = (r : Reply) × Tells (named_meaning v.set) v.question n r × Accounted v n r

-- and to each number of a vector
abbrev pub Held : Vector → Type 0
Held v = (n : ℕ) → v.from ≤ n → n ≤ v.to → HeldAt v n
