-- What ISO/IEC 6937 cannot read, and why.
use Rattle.std.proofs.Common.{◌≡◌, ℕ, ◌<◌, ◌≤◌, true, List, [], ◌∷◌}
use Rattle.std.proofs.Common.{length, get_or, is_some, None, refl, ap, arith}
use Rattle.charset.specs.Meaning.{Unreadable}
use Rattle.charset.proofs.FrontLemmas.{unreadable_here}
use Rattle.sets.specs.declared.cause.Cause.TheVariants.{NotInUse, NoPair}
use Rattle.sets.specs.Causes.{refusal}
use Rattle.sets.specs.Iso6937.{single, letters_of, pair, iso6937_causes, iso6937}
use Rattle.sets.specs.Laws.Iso6937.{iso6937_laws}

pub not_in_use : (s : List ℕ) → 0 < length s → single (get_or s 0 0) ≡ None
    → letters_of (get_or s 0 0) ≡ None
    → Unreadable iso6937 s × (refusal NotInUse ≡ iso6937_causes s)
not_in_use [] h e f = absurd (omega arith)
not_in_use (b ∷ s) h e f =
    (unreadable_here iso6937_laws (b ∷ s) 0 refl e (ap is_some f), rw f refl)

pub no_pair : (s : List ℕ) → 2 ≤ length s → is_some (letters_of (get_or s 0 0)) ≡ true
    → pair (get_or s 0 0) (get_or s 1 0) ≡ None
    → Unreadable iso6937 s × (refusal NoPair ≡ iso6937_causes s)
no_pair [] h e f = absurd (omega arith)
no_pair (m ∷ []) h e f = absurd (omega arith)
no_pair (m ∷ l ∷ s) h e f = (unreadable_here iso6937_laws (m ∷ l ∷ s) 1 e f refl, rw e refl)
