-- Pages that follow one another without a gap.
use Rattle.std.proofs.Common.{◌≡◌, ℕ, zero, suc, ◌+◌, ◌<◌, ◌≤◌, true, false}
use Rattle.std.proofs.Common.{eqb, leb, List, ◌++◌, take, sym, refl, ap, ◌∙◌, subst, inl}
use Rattle.std.proofs.Common.{inr, add-one, arith, take-add}
use Rattle.std.proofs.lemmas.Bool.{cases_lt, and_parts, eqb-true, eq-eqb, cond-true}
use Rattle.roll.specs.declared.TheConstants.{LAST_FORM}
use Rattle.roll.specs.Format.{index_offset, page_count, offset, size, form, padded, starts}
use Rattle.roll.specs.Format.{entry_holds, sizes, NoPagesNoBytes, EntriesHold, page_bytes, joined}
use Rattle.roll.specs.Opened.{FirstBad}

-- what an entry that keeps the rules says
pub holds_start : (b : List ℕ) (k : ℕ) → entry_holds b k ≡ true
    → offset b k ≡ starts b k
holds_start b k h = eqb-true _ _ (and_parts _ _ h).0

pub holds_last : (b : List ℕ) (k : ℕ) → entry_holds b k ≡ true → k + 1 ≡ page_count b
    → offset b k + size b k ≡ index_offset b
holds_last b k h e =
    let l = (and_parts (padded b k) _ (and_parts (leb (form b k) LAST_FORM) _
    (and_parts (eqb (offset b k) (starts b k)) _ h).1).1).1 in
    eqb-true _ _ (sym (cond-true (eqb (k + 1) (page_count b)) _ true (eq-eqb _ _ e)) ∙ l)

abbrev pub HoldBelow : List ℕ → ℕ → Type 0
HoldBelow b n = (k : ℕ) → k < n → entry_holds b k ≡ true

-- one page less
fewer : (b : List ℕ) (n : ℕ) → HoldBelow b (suc n) → HoldBelow b n
fewer b n h k l = h k (omega arith)

pub starts_sizes : (b : List ℕ) (n : ℕ) → HoldBelow b n → starts b n ≡ sizes b n
starts_sizes b zero h = refl
starts_sizes b (suc n) h =
    ap (λ z. z + size b n) (holds_start b n (h n (omega arith)) ∙ starts_sizes b n (fewer b n h))

pub joined_take : (b : List ℕ) (n : ℕ) → HoldBelow b n → joined b n ≡ take (starts b n) b
joined_take b zero h = refl
joined_take b (suc n) h =
    let s = holds_start b n (h n (omega arith)) in
    ap (λ z. z ++ page_bytes b n) (joined_take b n (fewer b n h) ∙ ap (λ z. take z b) (sym s))
    ∙ sym (take-add (offset b n) (size b n) b)

pub starts_last : (b : List ℕ) (n : ℕ) → n ≡ page_count b → NoPagesNoBytes b
    → HoldBelow b n → starts b n ≡ index_offset b
starts_last b zero e none h = sym (none (sym e))
starts_last b (suc n) e none h = holds_last b n (h n (omega arith)) (add-one n ∙ e)

pub covers : (b : List ℕ) → NoPagesNoBytes b → EntriesHold b
    → joined b (page_count b) ≡ take (index_offset b) b
covers b none h =
    joined_take b (page_count b) h
    ∙ ap (λ z. take z b) (starts_last b (page_count b) refl none h)

-- the first entry that breaks a rule
pub first_bad : (b : List ℕ) (k : ℕ) → k < page_count b → HoldBelow b k
    → entry_holds b k ≡ false → FirstBad b (k + 1)
first_bad b k l h e = subst (FirstBad b) (sym (add-one k)) (omega arith, h, e)

-- the end of the index
pub sums : (b : List ℕ) (k end : ℕ) → k ≡ page_count b → end ≡ starts b k
    → HoldBelow b k → EntriesHold b × (end ≡ sizes b (page_count b))
sums b k end n e h =
    let all : EntriesHold b = subst (HoldBelow b) n h in
    (all, e ∙ (ap (starts b) n ∙ starts_sizes b (page_count b) all))

-- a page ends before the index
ends_below : (b : List ℕ) (n k : ℕ) → HoldBelow b n → k < n
    → starts b (suc k) ≤ starts b n
ends_below b zero k h l = absurd (omega arith)
ends_below b (suc n) k h l =
    elim (cases_lt k n) [
      | inl less ↦ omega (
        arith,
        ends_below b n k (fewer b n h) less,
        holds_start b n (h n (omega arith)),
      )
      | inr more ↦ let e : k ≡ n =
          omega arith in subst (λ z. starts b (suc z) ≤ starts b (suc n)) (sym e) (omega arith)
    ]

pub ends_inside : (b : List ℕ) (k : ℕ) → NoPagesNoBytes b → EntriesHold b
    → k < page_count b → offset b k + size b k ≤ index_offset b
ends_inside b k none h l =
    omega (arith, ends_below b (page_count b) k h l, starts_last b (page_count b) refl none h)
