-- What a set of single bytes cannot read.
use Rattle.std.proofs.Common.{◌≡◌, ℕ, ◌<◌, true, List, [], ◌∷◌, length}
use Rattle.std.proofs.Common.{slice_index, None, refl, arith}
use Rattle.charset.specs.Meaning.{Unreadable}
use Rattle.charset.proofs.FrontLemmas.{unreadable_here}
use Rattle.sets.specs.Columns.{character_at, one_to_one}
use Rattle.sets.specs.SingleByte.{single_byte}
use Rattle.sets.specs.Laws.SingleByte.{single_byte_laws}

pub not_in_use : (columns : List (List ℕ)) → one_to_one columns ≡ true → (s : List ℕ)
    → 0 < length s → character_at columns (slice_index s 0) ≡ None
    → Unreadable (single_byte columns) s
not_in_use columns ok [] h e = absurd (omega arith)
not_in_use columns ok (b ∷ s) h e =
    unreadable_here (single_byte_laws columns ok) (b ∷ s) 0 refl e refl
