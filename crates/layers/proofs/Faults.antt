-- Where a string that cannot be read goes wrong.
use Rattle.std.proofs.Common.{◌≡◌, ℕ, ◌+◌, min, Bool, true, false, List, [], ◌∷◌}
use Rattle.std.proofs.Common.{◌++◌, length, take, sym, refl, ap, ◌∙◌, subst}
use Rattle.std.proofs.Common.{append_assoc, append-nil}
use lib.Seq.{take-append-add}
use Rattle.std.proofs.lemmas.Bool.{both_ways}
use Rattle.charset.specs.Meaning.{Meaning, Codes, IsOpening, Unreadable}
use Rattle.charset.proofs.FrontLemmas.{take-take_min}
use Rattle.layers.specs.Words.{FailsAt}

-- it has an opening in front, and a byte with which neither an opening nor a coding comes about
pub first_fault : (m : Meaning) → IsOpening m [] → (s : List ℕ) → Unreadable m s
    → FailsAt m (λ p x. Unreadable m (p ++ x ∷ [])) s
first_fault m none s u = go s [] none u
  where
    go : (s p : List ℕ) → IsOpening m p → Unreadable m (p ++ s)
        → FailsAt m (λ p x. Unreadable m (p ++ x ∷ [])) (p ++ s)
    go [] p o u = absurd (both_ways _ (rw append-nil at u.1) o)
    go (x ∷ s) p o u = next (m.openings (p ++ x ∷ [])) refl (go s (p ++ x ∷ []))
      where
        next : (b : Bool) → m.openings (p ++ x ∷ []) ≡ b
            → (IsOpening m (p ++ x ∷ []) → Unreadable m ((p ++ x ∷ []) ++ s)
            → FailsAt m (λ p x. Unreadable m (p ++ x ∷ [])) ((p ++ x ∷ []) ++ s))
            → FailsAt m (λ p x. Unreadable m (p ++ x ∷ [])) (p ++ x ∷ s)
        next true e f =
            let i : (p ++ x ∷ []) ++ s ≡ p ++ x ∷ s = append_assoc p (x ∷ []) s in
            subst (FailsAt m (λ p x. Unreadable m (p ++ x ∷ []))) i
            (f e (subst (Unreadable m) (sym i) u))
        next false e f =
            let i : p ++ x ∷ [] ≡ take (length p + 1) (p ++ x ∷ s) =
            sym (take-append-add p (x ∷ s) 1) in (
              p,
              s,
              x,
              refl,
              o,
              (
                (λ n c h. u.0 (min n (length p + 1)) c
                    (subst (λ z. Codes m z c) (ap (take n) i ∙ take-take_min n (length p + 1)
                    (p ++ x ∷ s))
                    h)),
                e,
              ),
            )
