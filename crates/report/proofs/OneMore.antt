-- One place more.
use Rattle.std.proofs.Common.{◌≡◌, ℕ, ◌+◌, List, ◌++◌, sym, ◌∙◌, subst}
use Rattle.std.proofs.Common.{add-one}
use Rattle.report.specs.InOrder.{InOrder}

pub one_more : {X : Type 0} (P : ℕ → List X → Type 0) (k m : ℕ) (front part out : List X)
    → InOrder P k front → P k part → out ≡ front ++ part → m ≡ k + 1 → InOrder P m out
one_more P k m front part out h p e i =
    subst (λ z. InOrder P z out) (sym (i ∙ add-one k)) (front, part, h, p, e)
