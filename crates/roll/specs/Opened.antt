-- What opening a roll answers.
use Rattle.std.specs.Prelude.{◌≡◌, ℕ, zero, suc, ◌<◌, true, false, List, take, Ok, Err}
use Rattle.std.specs.Prelude.{Result, ◌≢◌}
use Rattle.roll.specs.declared.refusal.RollRefusal.{RollRefusal}
use Rattle.roll.specs.declared.refusal.RollRefusal.TheVariants.{WrongSize, NoMark, WrongIndex}
use Rattle.roll.specs.declared.refusal.RollRefusal.TheVariants.{BadEntry, WrongTotal}
use Rattle.roll.specs.declared.refusal.RefusalTold.{RefusalTold}
use Rattle.roll.specs.Told.{refusal_told}
use Rattle.roll.specs.Format.{index_offset, page_count, entry_holds, sizes, Sized, Marked, Indexed}
use Rattle.roll.specs.Format.{NoPagesNoBytes, EntriesHold, Totalled, joined}

-- the first entry, from 1, that breaks a rule; 0 where there are no pages and the index does not
-- begin at 0
abbrev pub FirstBad : List ℕ → ℕ → Type 0
FirstBad b zero = (page_count b ≡ 0) × (index_offset b ≢ 0)
FirstBad b (suc k) =
    (k < page_count b) × ((i : ℕ) → i < k → entry_holds b i ≡ true)
    × (entry_holds b k ≡ false)

-- the sum of the lengths, where every entry keeps the rules
abbrev pub Checked : List ℕ → Result ℕ RollRefusal → Type 0
Checked b (Ok sum) = NoPagesNoBytes b × EntriesHold b × (sum ≡ sizes b (page_count b))
Checked b (Err e) = (n : ℕ) × (e ≡ BadEntry n) × FirstBad b n

-- what is told of each refusal comes exactly when its rule is broken and none before it
pub data Refuses (b : List ℕ) : RefusalTold → Type 0 where
  wrong_size : ¬ Sized b → Refuses b (refusal_told WrongSize)
  no_mark : Sized b → ¬ Marked b → Refuses b (refusal_told NoMark)
  wrong_index : Sized b → Marked b → ¬ Indexed b → Refuses b (refusal_told WrongIndex)
  bad_entry : (n : ℕ) → Sized b → Marked b → Indexed b → FirstBad b n
      → Refuses b (refusal_told (BadEntry n))
  wrong_total : Sized b → Marked b → Indexed b → NoPagesNoBytes b → EntriesHold b
      → ¬ Totalled b → Refuses b (refusal_told WrongTotal)

-- a refusal, by what is told of it
abbrev pub RefusedAs : List ℕ → RollRefusal → Type 0
RefusedAs b e = Refuses b (refusal_told e)

-- a roll that keeps every rule; its pages, joined, are all that comes before the index
pub record Accepted (b : List ℕ) : Type 0 where
  pub sized : Sized b
  pub marked : Marked b
  pub indexed : Indexed b
  pub no_pages_no_bytes : NoPagesNoBytes b
  pub entries : EntriesHold b
  pub totalled : Totalled b
  pub covered : joined b (page_count b) ≡ take (index_offset b) b

-- no bytes are refused in two ways, nor refused and accepted
pub record OneAnswer (b : List ℕ) : Type 0 where
  pub one_refusal : (t u : RefusalTold) → Refuses b t → Refuses b u → t ≡ u
  pub not_both : (t : RefusalTold) → Refuses b t → ¬ Accepted b
