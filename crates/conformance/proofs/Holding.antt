-- The numbers of a vector are held one after the other.
use Rattle.std.proofs.Common.{ℕ, ◌+◌, ◌<◌, ◌≤◌, inl, inr, subst, sym, arith}
use Rattle.std.proofs.lemmas.Bool.{cases_order}
use Rattle.conformance.specs.declared.vector.Vector.{Vector}
use Rattle.conformance.specs.Held.{Held, HeldAt}

-- those below m
abbrev pub HeldBelow : Vector → ℕ → Type 0
HeldBelow v m = (n : ℕ) → v.from ≤ n → n < m → HeldAt v n

pub next_held : (v : Vector) (m : ℕ) → HeldBelow v m → HeldAt v m → HeldBelow v (m + 1)
next_held v m below here n from less = elim (cases_order n m) [
  | inl same ↦ subst (HeldAt v) (sym same) here
  | inr (inl under) ↦ below n from under
  | inr (inr over) ↦ absurd (omega (arith, less, over))
]

pub all_held : (v : Vector) (m : ℕ) → HeldBelow v m → v.to < m → Held v
all_held v m below past n from most = below n from (omega (arith, past, most))
