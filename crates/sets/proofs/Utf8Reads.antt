-- What UTF-8 cannot read.
use Rattle.std.proofs.Common.{◌≡◌, ℕ, ◌≤◌, true, false, List, [], ◌∷◌, length}
use Rattle.std.proofs.Common.{get_or, Some, None, refl, arith}
use Rattle.std.proofs.lemmas.Bool.Decides.{nat_tests}
use Rattle.std.proofs.lemmas.Bool.{cond-false}
use Rattle.charset.specs.Meaning.{Unreadable}
use Rattle.charset.proofs.FrontLemmas.{unreadable_here}
use Rattle.sets.specs.Utf8.{lead, second, tail, utf8}
use Rattle.sets.specs.Laws.Utf8.{utf8_laws}

pub bad_first : (s : List ℕ) → 1 ≤ length s → 0x80 ≤ get_or s 0 0
    → lead (get_or s 0 0) ≡ false → Unreadable utf8 s
bad_first [] l h k = absurd (omega arith)
bad_first (a ∷ s) l h k =
    unreadable_here utf8_laws (a ∷ s) 0 refl
    (cond-false _ (Some _) None (grind (arith, nat_tests)))
    k

pub bad_second : (s : List ℕ) → 2 ≤ length s → lead (get_or s 0 0) ≡ true
    → second (get_or s 0 0) (get_or s 1 0) ≡ false → Unreadable utf8 s
bad_second [] l h e = absurd (omega arith)
bad_second (a ∷ []) l h e = absurd (omega arith)
bad_second (a ∷ b ∷ s) l h e =
    unreadable_here utf8_laws (a ∷ b ∷ s) 1 h
    (cond-false _ (Some _) None (grind (arith, nat_tests))) (grind (arith, nat_tests))

pub bad_third : (s : List ℕ) → 3 ≤ length s → lead (get_or s 0 0) ≡ true
    → 0xe0 ≤ get_or s 0 0 → second (get_or s 0 0) (get_or s 1 0) ≡ true
    → tail (get_or s 2 0) ≡ false → Unreadable utf8 s
bad_third [] l h k e f = absurd (omega arith)
bad_third (a ∷ []) l h k e f = absurd (omega arith)
bad_third (a ∷ b ∷ []) l h k e f = absurd (omega arith)
bad_third (a ∷ b ∷ c ∷ s) l h k e f =
    unreadable_here utf8_laws (a ∷ b ∷ c ∷ s) 2 (grind (arith, nat_tests))
    (cond-false _ (Some _) None (grind (arith, nat_tests))) (grind (arith, nat_tests))

pub bad_fourth : (s : List ℕ) → 4 ≤ length s → lead (get_or s 0 0) ≡ true
    → 0xf0 ≤ get_or s 0 0 → second (get_or s 0 0) (get_or s 1 0) ≡ true
    → tail (get_or s 2 0) ≡ true → tail (get_or s 3 0) ≡ false → Unreadable utf8 s
bad_fourth [] l h k e f g = absurd (omega arith)
bad_fourth (a ∷ []) l h k e f g = absurd (omega arith)
bad_fourth (a ∷ b ∷ []) l h k e f g = absurd (omega arith)
bad_fourth (a ∷ b ∷ c ∷ []) l h k e f g = absurd (omega arith)
bad_fourth (a ∷ b ∷ c ∷ d ∷ s) l h k e f g =
    unreadable_here utf8_laws (a ∷ b ∷ c ∷ d ∷ s) 3 (grind (arith, nat_tests))
    (cond-false _ (Some _) None (grind (arith, nat_tests))) refl
