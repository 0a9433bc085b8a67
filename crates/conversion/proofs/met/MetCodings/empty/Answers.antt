use Rattle.std.proofs.Common.{inl, inr, refl}
use Rattle.conversion.proofs.CodingsMet.{none_kept}
use Rattle.conversion.proofs.PlainBytes.{none_known}
use Rattle.conversion.proofs.met.MetCodings.empty.Goals as goal

pub returns : goal.returns
returns c S T = (
  (refl, none_known S T),
  λ s v k. elim k [
    | inl p ↦ absurd (none_kept c.empty.result.kept c.empty.ensures s v p)
    | inr p ↦ absurd (none_kept c.empty-2.result.kept c.empty-2.ensures s v p)
  ],
)
