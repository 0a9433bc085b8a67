-- A packed roll keeps every rule, and its pages are those that were packed.
use Rattle.std.proofs.Common.{◌≡◌, ℕ, zero, suc, ◌+◌, ◌-◌, ◌*◌, ◌<◌}
use Rattle.std.proofs.Common.{◌≤◌, true, List, [], ◌∷◌, ◌++◌, length, take, drop}
use Rattle.std.proofs.Common.{refl, sym, ap, ◌∙◌, append_assoc, arith, length-append}
use Rattle.std.proofs.Common.{zero-add, inl, inr, subst}
use Rattle.std.specs.Prelude.{Some, slice_get, slice_index, All, ◌==◌}
use Rattle.std.proofs.Math.Seq.{drop-append_seam, take-append_seam}
use Rattle.std.proofs.lemmas.List.{get_or-append-add, get_or_append_left, length-take-le, take_all}
use Rattle.std.proofs.lemmas.Option.{slice_get_within, slice_get_cases}
use Rattle.std.proofs.lemmas.List.Elements.{All-get_or}
use Rattle.std.proofs.lemmas.Bool.{cond_both, and_from, eq-eqb, eqb-true, le-leb}
use Rattle.roll.specs.declared.TheConstants.{LAST_FORM}
use Rattle.roll.specs.declared.roll.TheConstants.{MARK}
use Rattle.roll.specs.Format.{word, index_offset, page_count, total, mark, entry, offset, size}
use Rattle.roll.specs.Format.{form, padded, starts, last_ends, entry_holds, sizes, page_bytes}
use Rattle.roll.specs.Format.{EntriesHold, NoPagesNoBytes}
use Rattle.roll.specs.Packed.{PackedPage, in_four, entry_of, pages_joined, index_from, trailer_of}
use Rattle.roll.specs.Packed.{packed, FitsRoll}
use Rattle.roll.specs.RollOf.{IsRollOf}
use Rattle.roll.proofs.Chain.{starts_sizes, starts_last, covers}

-- what stands behind the first of two lists
at_after : (xs ys : List ℕ) (n i : ℕ) → n ≡ length xs + i
    → slice_index (xs ++ ys) n ≡ slice_index ys i
at_after xs ys n i e = rw e (get_or-append-add xs ys i 0)

word_after : (xs ys : List ℕ) (n i : ℕ) → n ≡ length xs + i
    → word (xs ++ ys) n ≡ word ys i
word_after xs ys n i e =
    rw (
      at_after xs ys n i e,
      at_after xs ys (n + 1) (i + 1) (omega arith),
      at_after xs ys (n + 2) (i + 2) (omega arith),
      at_after xs ys (n + 3) (i + 3) (omega arith),
    )
    refl

-- four bytes give the number that they were made of
word_of_four : (n : ℕ) (rest : List ℕ) → word (in_four n ++ rest) 0 ≡ n
word_of_four n rest = omega arith

length-index_from : (o : ℕ) (ps : List PackedPage) → length (index_from o ps) ≡ 12 * length ps
length-index_from o [] = refl
length-index_from o (p ∷ ps) = omega (arith, length-index_from (o + length p.bytes) ps)

-- a list of pages in two parts
joined_parts : (ps qs : List PackedPage)
    → pages_joined (ps ++ qs) ≡ pages_joined ps ++ pages_joined qs
joined_parts [] qs = refl
joined_parts (p ∷ ps) qs = rw (joined_parts ps qs) (sym (append_assoc p.bytes _ _))

index_parts : (o : ℕ) (ps qs : List PackedPage) → index_from o (ps ++ qs) ≡ index_from o ps
    ++ index_from (o + length (pages_joined ps)) qs
index_parts o [] qs = ap (λ n. index_from n qs) (omega arith)
index_parts o (p ∷ ps) qs =
    let size : ℕ = length p.bytes in
    let e : o + size + length (pages_joined ps) ≡ o + length (p.bytes ++ pages_joined ps) =
    omega (arith, length-append p.bytes (pages_joined ps)) in
    ap (λ z. entry_of o size p.form ++ z) (index_parts (o + size) ps qs
    ∙ ap (λ n. index_from (o + size) ps ++ index_from n qs) e)

split_at : (ps : List PackedPage) (k : ℕ) (p : PackedPage) → slice_get ps k ≡ Some p
    → ps ≡ take k ps ++ p ∷ drop (suc k) ps
split_at [] k p h = cc
split_at (x ∷ ps) zero p h = cc
split_at (x ∷ ps) (suc k) p h = ap (λ z. x ∷ z) (split_at ps k p h)

-- where a page ends
ends_at : (ps : List PackedPage) (k : ℕ) (p : PackedPage) → slice_get ps k ≡ Some p
    → length (pages_joined (take (suc k) ps))
    ≡ length (pages_joined (take k ps)) + length p.bytes
ends_at [] k p h = cc
ends_at (x ∷ ps) zero p h =
    let e : x ≡ p = cc in
    rw e (omega (arith, length-append p.bytes []))
ends_at (x ∷ ps) (suc k) p h =
    simp length-append (omega (arith, ends_at ps k p h))

none_joined : (ps : List PackedPage) → length ps ≡ 0 → length (pages_joined ps) ≡ 0
none_joined [] e = refl
none_joined (p ∷ ps) e = absurd (omega arith)

module _ (ps : List PackedPage) where
  packed_length : length (packed ps) ≡ length (pages_joined ps) + 12 * length ps + 16
  packed_length = simp length-append (omega (arith, length-index_from 0 ps))

  in_trailer : (n i : ℕ) → n + 16 ≡ length (packed ps) + i
      → word (packed ps) n ≡ word (trailer_of (length (pages_joined ps)) (length ps)) i
  in_trailer n i e =
      let I = index_from 0 ps in
      word_after (pages_joined ps) _ n (length I + i)
      (omega (arith, packed_length, length-index_from 0 ps))
      ∙ word_after I _ (length I + i) i refl

  packed_index : index_offset (packed ps) ≡ length (pages_joined ps)
  packed_index =
      in_trailer (length (packed ps) - 16) 0 (omega (arith, packed_length))
      ∙ word_of_four (length (pages_joined ps)) []

  packed_count : page_count (packed ps) ≡ length ps
  packed_count =
      in_trailer (length (packed ps) - 12) 4 (omega (arith, packed_length))
      ∙ word_of_four (length ps) []

  packed_total : total (packed ps) ≡ length (pages_joined ps)
  packed_total =
      in_trailer (length (packed ps) - 8) 8 (omega (arith, packed_length))
      ∙ word_of_four (length (pages_joined ps)) []

  packed_mark : mark (packed ps) ≡ MARK
  packed_mark = in_trailer (length (packed ps) - 4) 12 (omega (arith, packed_length))

  -- a page's entry in the index
  module _ (k : ℕ) (p : PackedPage) (h : slice_get ps k ≡ Some p) where
    abbrev begins : ℕ
    begins = length (pages_joined (take k ps))

    within : k < length ps
    within = slice_get_within ps k p h

    in_index : (n j : ℕ) → n ≡ length (pages_joined ps) + 12 * k + j → j < 12
        → slice_index (packed ps) n ≡ slice_index (entry_of begins (length p.bytes) p.form) j
    in_index n j e l =
        let before = take k ps in
        let after = drop (suc k) ps in
        let size = length p.bytes in
        let I = index_from 0 ps in
        let A = index_from 0 before in
        let E = entry_of begins size p.form in
        let M = index_from (begins + size) after in
        let split : I ≡ A ++ (E ++ M) =
        ap (index_from 0) (split_at ps k p h) ∙ (index_parts 0 before (p ∷ after)
        ∙ ap (λ o. A ++ index_from o (p ∷ after)) (zero-add begins)) in
        let place : 12 * k + j ≡ length A + j =
        omega (arith, length-index_from 0 before, length-take-le k ps (omega (arith, within))) in
        let inside : 12 * k + j < length I = omega (arith, length-index_from 0 ps, within) in
        at_after (pages_joined ps) _ n (12 * k + j) (omega arith)
        ∙ (get_or_append_left I _ 0 (12 * k + j) inside
        ∙ (ap (λ z. slice_index z (12 * k + j)) split
        ∙ (at_after A (E ++ M) (12 * k + j) j place ∙ get_or_append_left E M 0 j l)))

    word_in_index : (n j : ℕ) → n ≡ length (pages_joined ps) + 12 * k + j → j + 4 ≤ 12
        → word (packed ps) n ≡ word (entry_of begins (length p.bytes) p.form) j
    word_in_index n j e l =
        rw (
          in_index n j e (omega arith),
          in_index (n + 1) (j + 1) (omega arith) (omega arith),
          in_index (n + 2) (j + 2) (omega arith) (omega arith),
          in_index (n + 3) (j + 3) (omega arith) (omega arith),
        )
        refl

    at_entry : (j : ℕ) → entry (packed ps) k + j ≡ length (pages_joined ps) + 12 * k + j
    at_entry j = ap (λ n. n + 12 * k + j) packed_index

    packed_offset : offset (packed ps) k ≡ begins
    packed_offset =
        word_in_index (entry (packed ps) k) 0 (omega (arith, packed_index)) (omega arith)
        ∙ word_of_four begins []

    packed_size : size (packed ps) k ≡ length p.bytes
    packed_size =
        word_in_index (entry (packed ps) k + 4) 4 (at_entry 4) (omega arith)
        ∙ word_of_four (length p.bytes) []

    packed_form : form (packed ps) k ≡ p.form
    packed_form = in_index (entry (packed ps) k + 8) 8 (at_entry 8) (omega arith)

    packed_padded : padded (packed ps) k ≡ true
    packed_padded =
        rw (
          in_index (entry (packed ps) k + 9) 9 (at_entry 9) (omega arith),
          in_index (entry (packed ps) k + 10) 10 (at_entry 10) (omega arith),
          in_index (entry (packed ps) k + 11) 11 (at_entry 11) (omega arith),
        )
        refl

    packed_bytes : page_bytes (packed ps) k ≡ p.bytes
    packed_bytes =
        let before = take k ps in
        let after = pages_joined (drop (suc k) ps) in
        let rest = index_from 0 ps ++ trailer_of (length (pages_joined ps)) (length ps) in
        let parts : packed ps ≡ pages_joined before ++ (p.bytes ++ (after ++ rest)) =
        ap (λ z. z ++ rest) (ap pages_joined (split_at ps k p h) ∙ joined_parts before _)
        ∙ (append_assoc (pages_joined before) (p.bytes ++ after) rest
        ∙ ap (λ z. pages_joined before ++ z) (append_assoc p.bytes after rest)) in
        rw (packed_offset, packed_size)
        (ap (λ z. take (length p.bytes) (drop begins z)) parts
        ∙ (ap (take (length p.bytes)) (drop-append_seam (pages_joined before) _)
        ∙ take-append_seam p.bytes (after ++ rest)))

  -- where the first pages end
  packed_starts : (k : ℕ) → k ≤ length ps
      → starts (packed ps) k ≡ length (pages_joined (take k ps))
  packed_starts zero l = refl
  packed_starts (suc k) l =
      elim (slice_get_cases ps k).1 [
        | inl (p, here, h, same) ↦
            rw (packed_offset k p h, packed_size k p h) (sym (ends_at ps k p h))
        | inr past ↦ absurd (omega arith)
      ]

  packed_last : (k : ℕ) (p : PackedPage) → slice_get ps k ≡ Some p
      → last_ends (packed ps) k ≡ true
  packed_last k p h =
      let ends : k + 1 ≡ page_count (packed ps)
      → offset (packed ps) k + size (packed ps) k ≡ index_offset (packed ps) =
      λ e. let all : take (suc k) ps ≡ ps =
      take_all (suc k) ps (omega (arith, packed_count, e)) in
      rw (packed_offset k p h, packed_size k p h, packed_index)
      (sym (ends_at ps k p h) ∙ ap (λ qs. length (pages_joined qs)) all) in
      cond_both (k + 1 == page_count (packed ps)) _ true (λ z. z ≡ true)
      (λ e. eq-eqb _ _ (ends (eqb-true _ _ e))) (λ _. refl)

  packed_holds : (k : ℕ) (p : PackedPage) → slice_get ps k ≡ Some p → p.form ≤ LAST_FORM
      → entry_holds (packed ps) k ≡ true
  packed_holds k p h f =
      let start : offset (packed ps) k ≡ starts (packed ps) k =
      packed_offset k p h ∙ sym (packed_starts k (omega (arith, slice_get_within ps k p h))) in
      let known : form (packed ps) k ≤ LAST_FORM =
      subst (λ n. n ≤ LAST_FORM) (sym (packed_form k p h)) f in
      and_from _ _ (eq-eqb _ _ start) (and_from _ _ (le-leb _ _ known)
      (and_from _ _ (packed_padded k p h) (packed_last k p h)))

  packed_entries : All (λ p. p.form ≤ LAST_FORM) ps → EntriesHold (packed ps)
  packed_entries forms k l =
      elim (slice_get_cases ps k).1 [
        | inl (p, here, h, same) ↦
            let f = All-get_or (λ q. q.form ≤ LAST_FORM) ps k p here forms in
            packed_holds k p h (subst (λ q. q.form ≤ LAST_FORM) same f)
        | inr past ↦ absurd (omega (arith, packed_count))
      ]

  packed_none : NoPagesNoBytes (packed ps)
  packed_none e = packed_index ∙ none_joined ps (sym packed_count ∙ e)

-- a list of pages that a roll can hold, packed, is a roll of them
pub packed_is_roll : (ps : List PackedPage) → FitsRoll ps → IsRollOf ps (packed ps)
packed_is_roll ps fits =
    let b = packed ps in
    let none = packed_none ps in
    let entries = packed_entries ps fits.forms in
    let ends : sizes b (page_count b) ≡ index_offset b =
    sym (starts_sizes b (page_count b) entries) ∙ starts_last b (page_count b) refl none entries
    in
    record {
      accepted = record {
        sized = (omega (arith, packed_length ps), omega (arith, packed_length ps, fits.short));
        marked = packed_mark ps;
        indexed = (
          omega (arith, packed_count ps, fits.few),
          omega (arith, packed_length ps, packed_index ps, packed_count ps),
        );
        no_pages_no_bytes = none;
        entries = entries;
        totalled = packed_total ps ∙ (sym (packed_index ps) ∙ sym ends);
        covered = covers b none entries;
      };
      count = packed_count ps;
      pages = λ k p h. record {
        its_form = packed_form ps k p h;
        its_bytes = packed_bytes ps k p h;
        its_offset = packed_offset ps k p h;
      };
    }
