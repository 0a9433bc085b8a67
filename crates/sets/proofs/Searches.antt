-- The library's searches from the front, in the words of these sets.
use Rattle.std.proofs.Common.{◌≡◌, ℕ, zero, suc, ◌+◌, ◌<◌, Bool, true, false, cond}
use Rattle.std.proofs.Common.{List, [], ◌∷◌, length, map, is_some, Some, None, IfSome}
use Rattle.std.proofs.Common.{IsSomeAnd, MatchOption, IsTrue, Option, Bor, slice_index_or, sym}
use Rattle.std.proofs.Common.{refl, ◌∙◌, ap, subst, add-one, arith}
use Rattle.std.specs.Option.{option_map}
use Rattle.std.specs.List.{find, range_with_len}
use Rattle.std.specs.Fn.{Called, CalledAt}
use Rattle.std.specs.Iterator.{FindsItem}
use Rattle.std.specs.Iterator.Runs.{Run, SomeRun, EveryRun, ItemsMapTo, AllItemsGive, IsFirstToGive}
use Rattle.std.specs.declared.ops.Range.{Range}
use Rattle.std.specs.declared.iter.Map.{Map}
use Rattle.std.proofs.lemmas.Iterator.{YieldsList-from_range, YieldsList-from_map, maps}
use Rattle.std.proofs.iter.Yields.{nat_range_steps}
use Rattle.std.specs.Iterator.Adapters.{map_source, map_callee}
use Rattle.std.proofs.lemmas.Iterator.Adapters.{option_map_id}
use Rattle.std.proofs.lemmas.Iterator.Search.{find_from_yields_List}
use Rattle.std.proofs.lemmas.Option.{same_Some}
use denote.Param.Members.{Mut}
use Rattle.sets.specs.Search.{when, or_else, first_in, first_from}

-- ---- `find_map`

or_same : {D : Type 0} (o r : Option D) → is_some o ≡ true → or_else o r ≡ o
or_same None r t = cc
or_same (Some x) r t = refl

module _ {A D : Type 0} (h : A → Option D) where
  all_none : (xs : List A)
      → ((k : ℕ) (d : A) → k < length xs → h (slice_index_or xs k d) ≡ None)
      → first_in h xs ≡ None
  all_none [] e = refl
  all_none (x ∷ xs) e =
      rw (e 0 x (omega arith)) (all_none xs (λ k d l. e (suc k) d (omega arith)))

  first_some : (xs : List A) (i : ℕ) (o : Option D) → is_some o ≡ true → i < length xs
      → ((d : A) → h (slice_index_or xs i d) ≡ o)
      → ((k : ℕ) (d : A) → k < i → h (slice_index_or xs k d) ≡ None)
      → first_in h xs ≡ o
  first_some [] i o t l e n = absurd (omega arith)
  first_some (x ∷ xs) zero o t l e n = rw (e x) (or_same o _ t)
  first_some (x ∷ xs) (suc i) o t l e n =
      rw (n 0 x (omega arith)) (first_some xs i o t (omega arith) e
      (λ k d m. n (suc k) d (omega arith)))

if_some : {A : Type 0} (a : Option A) (P : A → Type 0) → IsSomeAnd a P → IfSome a P
if_some None P m = absurd m
if_some (Some x) P m = m

-- f answers as h does, read by `seen`
abbrev Answers : {A C D F : Type 0} → Mut F (Bor A × Unit {0}) (Option C) → F
    → (Option C → Option D) → (A → Option D) → Type 0
Answers {A} {C} {D} {F} g f seen h =
    (x : Bor A) (o : Option C) (q : F) → Called g f (x, tt) o q
    → (q ≡ f) × (seen o ≡ h x.now)

module _ {A C D F S : Type 0} {steps : S → Option (Bor A) → S → Type 0}
    {g : Mut F (Bor A × Unit {0}) (Option C)} where
  answered : (f : F) (seen : Option C → Option D) (h : A → Option D) → Answers g f seen h
      → (p : Run steps) (xs : List A) → ItemsMapTo p (λ y. y.now) xs → (k : ℕ) (d : A)
      (o : Option C) → k < p.len → IfSome (p.at k) (λ x. Called g f (x, tt) o f)
      → h (slice_index_or xs k d) ≡ seen o
  answered f seen h calls p xs items k d o l c = go (p.at k) (items.2 k d l) c
    where
      go : (a : Option (Bor A)) → option_map (λ y. y.now) a ≡ Some (slice_index_or xs k d)
          → IfSome a (λ x. Called g f (x, tt) o f) → h (slice_index_or xs k d) ≡ seen o
      go None e m = cc
      go (Some x) e m = rw (← same_Some _ _ e) (sym (calls x o f m).1)

  -- the first answer of f along a list
  pub first_answer : {f : F} {s : S} (rest : S → List A) (h : A → Option D)
      (seen : Option C → Option D) → seen None ≡ None
      → ((y : C) → is_some (seen (Some y)) ≡ true) → Answers g f seen h → (r : Option C)
      (xs : List A) → rest s ≡ xs
      → EveryRun steps (λ p. ItemsMapTo p (λ y. y.now) (rest p.from))
      → SomeRun steps s
      (λ p. MatchOption r (IsTrue p.whole × AllItemsGive p g f None) (λ y. (i : ℕ)
      × (i < p.len) × (p.len ≡ i + 1) × IsFirstToGive p g f (Some y) None i))
      → seen r ≡ first_in h xs
  first_answer {f} {s} rest h seen none some calls r xs here every run = by r run.2
    where
      p : Run steps
      p = run.0

      items : ItemsMapTo p (λ y. y.now) xs
      items = subst (ItemsMapTo p (λ y. y.now)) (ap rest run.1 ∙ here) (every p p.seen)

      stays : (x : Bor A × Unit {0}) (o : Option C) (q : F) → Called g f x o q → q ≡ f
      stays x o q m = (calls x.0 o q m).0

      by : (o : Option C)
          → MatchOption o (IsTrue p.whole × AllItemsGive p g f None) (λ y. (i : ℕ)
          × (i < p.len) × (p.len ≡ i + 1) × IsFirstToGive p g f (Some y) None i)
          → seen o ≡ first_in h xs
      by None m =
          none ∙ sym (all_none h xs (λ k d l. answered f seen h calls p xs items k d None
          (omega (arith, items.1 m.0)) (m.1 stays k) ∙ none))
      by (Some y) m =
          let i = m.0 in
          let first = m.3 stays in
          sym (first_some h xs i (seen (Some y)) (some y) (omega (arith, m.1, items.0))
          (λ d. answered f seen h calls p xs items i d (Some y) m.1
          (if_some (p.at i) (λ x. Called g f (x, tt) (Some y) f) first.0))
          (λ k d l. answered f seen h calls p xs items k d None (omega (arith, m.1))
          (if_some (p.at k) (λ x. Called g f (x, tt) None f) (first.1 k l)) ∙ none))

-- ---- `find` over the numbers from a on

first_number : (test : ℕ → Bool) (a n : ℕ)
    → find test (range_with_len a n) ≡ first_from test a n
unfolding first_from
first_number test a zero = refl
first_number test a (suc n) = go (test a) (rw (add-one a) (first_number test (suc a) n))
  where
    go : (t : Bool) → find test (range_with_len (a + 1) n) ≡ first_from test (suc a) n
        → cond t (Some a) (find test (range_with_len (a + 1) n)) ≡ or_else (when t a)
        (first_from test (suc a) n)
    go true e = refl
    go false e = e

pub first_of_numbers : {F G : Type 0} {g : Mut F (Bor ℕ × Unit {0}) Bool}
    {h : Mut G (ℕ × Unit {0}) ℕ} (test : ℕ
    → Bool) (a n : ℕ) (s u : Map (Range ℕ) G) (f : F)
    (r : Option ℕ) → FindsItem (maps nat_range_steps h) g s f r u
    → map_source s ≡ record { start = 0; end = n }
    → map (λ x. a + x) (range_with_len 0 n) ≡ range_with_len a n
    → ((x y : ℕ) (q : G) → Called h (map_callee s) (x, tt) y q
    → (q ≡ map_callee s) × (y ≡ a + x))
    → ((x : ℕ) (b : Bool) (q : F) → CalledAt g f x b q → (q ≡ f) × (b ≡ test x))
    → r ≡ first_from test a n
first_of_numbers {h = h} test a n s u f r d source moved adds calls =
    let numbers = YieldsList-from_map h (λ x. a + x) (YieldsList-from_range 0 n n source
    (omega arith)) refl adds in
    sym (option_map_id r) ∙ find_from_yields_List test u f r d numbers calls
    ∙ ap (find test) moved
    ∙ first_number test a n
