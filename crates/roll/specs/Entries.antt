-- What an entry of the index says.
use Rattle.std.specs.Prelude.{◌≡◌, ℕ, ◌+◌, true, false, List, Result, MatchResult}
use Rattle.roll.specs.declared.refusal.RollRefusal.{RollRefusal}
use Rattle.roll.specs.declared.refusal.RollRefusal.TheVariants.{BadEntry}
use Rattle.roll.specs.declared.index.Entry.{Entry}
use Rattle.roll.specs.Format.{offset, size, form, padded, starts, entry_holds}

-- an entry, by its place from 0
abbrev pub EntryAt : List ℕ → ℕ → Entry → Type 0
EntryAt b k e =
    (e.offset ≡ offset b k) × (e.end ≡ offset b k + size b k) × (e.form ≡ form b k)
    × (e.padded ≡ padded b k)

-- where the page after it would start, or that the entry breaks a rule
abbrev pub CheckedEnd : List ℕ → ℕ → Result ℕ RollRefusal → Type 0
CheckedEnd b k r =
    MatchResult r (λ end. (entry_holds b k ≡ true) × (end ≡ starts b (k + 1)))
    (λ e. (entry_holds b k ≡ false) × (e ≡ BadEntry (k + 1)))
