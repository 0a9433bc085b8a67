-- The code's table of the diacritics has the small letters first, and answers as Table 4 does.
use Rattle.std.proofs.Common.{◌≡◌, ℕ, Bool, true, false, ◌&&◌, List, [], ◌∷◌}
use Rattle.std.proofs.Common.{is_some, Some, None, Option, ◌==◌, refl, sym, ◌∙◌, ap}
use Rattle.std.specs.Option.{option_map}
use Rattle.std.proofs.lemmas.Bool.{and_parts, eqb-true}
use Rattle.sets.specs.Search.{when, or_else, first_in}
use Rattle.sets.specs.Columns.{is_character}
use Rattle.sets.specs.Iso6937Table.{diacritics}
use Rattle.sets.specs.Iso6937.{by_letter, by_character, accented, letter_of, among, pair}
use Rattle.sets.specs.Iso6937.{letters_of, pair_of}
use Rattle.sets.specs.Laws.Columns.{is_this}
use Rattle.sets.specs.Laws.Search.{when_some, every, found_passes}
use Rattle.sets.specs.declared.iso6937.table.Diacritic.{Diacritic}

-- ---- the test: the same diacritics in the same order, and under each the same pairs in any order

-- a pair is found by its letter and by its character
abbrev found_in : List (ℕ × ℕ) → ℕ × ℕ → Bool
found_in qs p = is_character p.1 (accented p.0 qs) && is_character p.0 (letter_of p.1 qs)

abbrev same_pairs : List (ℕ × ℕ) → List (ℕ × ℕ) → Bool
same_pairs ps qs = every (found_in qs) ps && every (found_in ps) qs

abbrev pub same_table : List Diacritic → List (ℕ × List (ℕ × ℕ)) → Bool
same_table [] [] = true
same_table [] (e ∷ es) = false
same_table (d ∷ ds) [] = false
same_table (d ∷ ds) (e ∷ es) =
    (d.mark == e.0 && same_pairs d.letters.now e.1) && same_table ds es

-- ---- what passes it answers alike

both_ways : {A : Type 0} (o p : Option A) → ((x : A) → o ≡ Some x → p ≡ Some x)
    → ((x : A) → p ≡ Some x → o ≡ Some x) → o ≡ p
both_ways None None there back = refl
both_ways None (Some x) there back = back x refl
both_ways (Some x) p there back = sym (there x refl)

accented_there : (ps qs : List (ℕ × ℕ)) → every (found_in qs) ps ≡ true → (l c : ℕ)
    → accented l ps ≡ Some c → accented l qs ≡ Some c
accented_there ps qs ok l c e =
    let h = found_passes (found_in qs) (by_letter l) ps c ok e in go h.0 h.1 h.2
  where
    go : (p : ℕ × ℕ) → found_in qs p ≡ true → by_letter l p ≡ Some c
        → accented l qs ≡ Some c
    go p t f =
        let same = when_some p.0 l p.1 c f in
        let both = and_parts (is_character p.1 (accented p.0 qs))
        (is_character p.0 (letter_of p.1 qs)) t in
        rw (← same.0, ← same.1) (is_this p.1 (accented p.0 qs) both.0)

letter_there : (ps qs : List (ℕ × ℕ)) → every (found_in qs) ps ≡ true → (c l : ℕ)
    → letter_of c ps ≡ Some l → letter_of c qs ≡ Some l
letter_there ps qs ok c l e =
    let h = found_passes (found_in qs) (by_character c) ps l ok e in go h.0 h.1 h.2
  where
    go : (p : ℕ × ℕ) → found_in qs p ≡ true → by_character c p ≡ Some l
        → letter_of c qs ≡ Some l
    go p t f =
        let same = when_some p.1 c p.0 l f in
        let both = and_parts (is_character p.1 (accented p.0 qs))
        (is_character p.0 (letter_of p.1 qs)) t in
        rw (← same.0, ← same.1) (is_this p.0 (letter_of p.1 qs) both.1)

module _ (ps qs : List (ℕ × ℕ)) (ok : same_pairs ps qs ≡ true) where
  same_accented : (l : ℕ) → accented l ps ≡ accented l qs
  same_accented l =
      let both = and_parts (every (found_in qs) ps) (every (found_in ps) qs) ok in
      both_ways (accented l ps) (accented l qs) (accented_there ps qs both.0 l)
      (accented_there qs ps both.1 l)

  same_letter : (c : ℕ) → letter_of c ps ≡ letter_of c qs
  same_letter c =
      let both = and_parts (every (found_in qs) ps) (every (found_in ps) qs) ok in
      both_ways (letter_of c ps) (letter_of c qs) (letter_there ps qs both.0 c)
      (letter_there qs ps both.1 c)

-- both know the diacritic, or neither, and a letter's character is the same
record SameLetters (o p : Option (List (ℕ × ℕ))) : Type 0 where
  known : is_some o ≡ is_some p
  pairs : (l : ℕ) → among l o ≡ among l p

letters_alike : (mark : ℕ) (ds : List Diacritic) (es : List (ℕ × List (ℕ × ℕ)))
    → same_table ds es ≡ true
    → SameLetters (first_in (λ d. when (d.mark == mark) d.letters.now) ds)
    (first_in (λ e. when (e.0 == mark) e.1) es)
letters_alike mark [] [] ok = record { known = refl; pairs = λ l. refl }
letters_alike mark [] (e ∷ es) ok = cc
letters_alike mark (d ∷ ds) [] ok = cc
letters_alike mark (d ∷ ds) (e ∷ es) ok =
    let both = and_parts (d.mark == e.0 && same_pairs d.letters.now e.1) (same_table ds es) ok in
    let here = and_parts (d.mark == e.0) (same_pairs d.letters.now e.1) both.0 in
    rw (eqb-true d.mark e.0 here.0)
    (go d.letters.now e.1 (e.0 == mark) (same_accented d.letters.now e.1 here.1)
    (letters_alike mark ds es both.1))
  where
    go : {o p : Option (List (ℕ × ℕ))} (ps qs : List (ℕ × ℕ)) (t : Bool)
        → ((l : ℕ) → accented l ps ≡ accented l qs) → SameLetters o p
        → SameLetters (or_else (when t ps) o) (or_else (when t qs) p)
    go ps qs true same more = record { known = refl; pairs = same }
    go ps qs false same more = more

pairs_alike : (c : ℕ) (ds : List Diacritic) (es : List (ℕ × List (ℕ × ℕ)))
    → same_table ds es ≡ true
    → first_in (λ d. option_map {U = ℕ × ℕ} (λ l. (d.mark, l)) (letter_of c d.letters.now))
    ds
    ≡ first_in (λ e. option_map (λ l. (e.0, l)) (letter_of c e.1)) es
pairs_alike c [] [] ok = refl
pairs_alike c [] (e ∷ es) ok = cc
pairs_alike c (d ∷ ds) [] ok = cc
pairs_alike c (d ∷ ds) (e ∷ es) ok =
    let both = and_parts (d.mark == e.0 && same_pairs d.letters.now e.1) (same_table ds es) ok in
    let here = and_parts (d.mark == e.0) (same_pairs d.letters.now e.1) both.0 in
    rw (
      eqb-true d.mark e.0 here.0,
      same_letter d.letters.now e.1 here.1 c,
      pairs_alike c ds es both.1,
    ) refl

-- ---- so a table that passes beside Table 4 gives its answers

is_some-map : {A B : Type 0} (f : A → B) (o : Option A) → is_some o ≡ is_some (option_map f o)
is_some-map f None = refl
is_some-map f (Some x) = refl

pub code_letters : {A : Type 0} (f : A → List (ℕ × ℕ)) (mark : ℕ) (o : Option A)
    (ds : List Diacritic)
    → option_map f o ≡ first_in (λ d. when (d.mark == mark) d.letters.now) ds
    → same_table ds diacritics ≡ true
    → (is_some o ≡ is_some (letters_of mark))
    × ((l : ℕ) → among l (option_map f o) ≡ pair mark l)
code_letters f mark o ds e ok =
    let same = letters_alike mark ds diacritics ok in (
      is_some-map f o ∙ ap is_some e ∙ same.known,
      λ l. ap (among l) e ∙ same.pairs l,
    )

pub code_pair : (c : ℕ) (o : Option (ℕ × ℕ)) (ds : List Diacritic)
    → o ≡ first_in (λ d. option_map (λ l. (d.mark, l)) (letter_of c d.letters.now)) ds
    → same_table ds diacritics ≡ true → o ≡ pair_of c
code_pair c o ds e ok = e ∙ pairs_alike c ds diacritics ok
