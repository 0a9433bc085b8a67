-- What a search from the front finds, and what a test over a whole table shows of its entries.
use Rattle.std.specs.Prelude.{◌≡◌, ℕ, zero, suc, ◌+◌, ◌<◌, ◌≤◌, Bool, true}
use Rattle.std.specs.Prelude.{false, ◌&&◌, List, [], ◌∷◌, Some, None, Option, ◌==◌}
use Rattle.std.specs.Prelude.{length, drop, slice_index_or, bytes_eq, refl, ◌≢◌}
use Rattle.std.proofs.Common.{sym, ap, ◌∙◌, inl, inr, arith, add-one, drop_of_length-le}
use Rattle.std.proofs.Common.{drop-cons}
use Rattle.std.proofs.lemmas.Bool.{and_parts, cases_eq, eq-eqb, ne_eqb, eqb-true}
use Rattle.std.proofs.lemmas.Option.{cond_some}
use Rattle.std.proofs.lemmas.Slice.Eq.{bytes_eq-Decides}
use Rattle.sets.specs.Search.{when, or_else, first_in, first_from, every_from}

-- what a test on a number tells
pub when_some : {A : Type 0} (a b : ℕ) (x y : A) → when (a == b) x ≡ Some y
    → (a ≡ b) × (x ≡ y)
when_some a b x y e = let h = cond_some (a == b) x y e in (eqb-true a b h.0, h.1)

pub when_same : {A : Type 0} {a b : ℕ} (x : A) → a ≡ b → when (a == b) x ≡ Some x
when_same {A} {a} {b} x e = rw (eq-eqb a b e) refl

pub when_other : {A : Type 0} {a b : ℕ} (x : A) → a ≢ b → when (a == b) x ≡ None
when_other {A} {a} {b} x n = rw (ne_eqb a b n) refl

-- every element passes
abbrev pub every : {A : Type 0} → (A → Bool) → List A → Bool
every p [] = true
every p (x ∷ xs) = p x && every p xs

-- what a search finds comes from an element that passes
pub found_passes : {A B : Type 0} (p : A → Bool) (f : A → Option B) (xs : List A) (y : B)
    → every p xs ≡ true → first_in f xs ≡ Some y
    → (x : A) × (p x ≡ true) × (f x ≡ Some y)
found_passes p f [] y all e = cc
found_passes {A} {B} p f (x ∷ xs) y all e =
    let both = and_parts (p x) (every p xs) all in
    go (f x) refl e both.0 (found_passes p f xs y both.1)
  where
    go : (o : Option B) → f x ≡ o → or_else o (first_in f xs) ≡ Some y → p x ≡ true
        → (first_in f xs ≡ Some y → (z : A) × (p z ≡ true) × (f z ≡ Some y))
        → (z : A) × (p z ≡ true) × (f z ≡ Some y)
    go None h g ok more = more g
    go (Some z) h g ok more = (x, ok, h ∙ g)

module _ (p : ℕ → Bool) where
  -- the first that passes is found
  pub first_here : (b n k : ℕ) → b ≤ k → k < b + n
      → ((j : ℕ) → b ≤ j → j < k → p j ≡ false) → p k ≡ true
      → first_from p b n ≡ Some k
  unfolding first_from
  first_here b zero k h g none hit = absurd (omega arith)
  first_here b (suc n) k h g none hit = elim (cases_eq b k) [
    | inl e ↦ let t : p b ≡ true = rw e hit in rw (t, e)
    | inr d ↦
        let f : p b ≡ false = none b (omega arith) (omega arith) in
        rw f (first_here (suc b) n k (omega arith) (omega arith)
        (λ j x y. none j (omega arith) y) hit)
  ]

  -- where none passes, none is found
  pub first_never : (b n : ℕ) → ((j : ℕ) → b ≤ j → j < b + n → p j ≡ false)
      → first_from p b n ≡ None
  unfolding first_from
  first_never b zero none = refl
  first_never b (suc n) none =
      let f : p b ≡ false = none b (omega arith) (omega arith) in
      rw f (first_never (suc b) n (λ j x y. none j (omega arith) (omega arith)))

  -- what is found passes, and lies where it was looked for
  pub first_passes : (b n k : ℕ) → first_from p b n ≡ Some k
      → (b ≤ k) × (k < b + n) × (p k ≡ true)
  unfolding first_from
  first_passes b zero k e = cc
  first_passes b (suc n) k e = go (p b) refl e (first_passes (suc b) n k)
    where
      go : (t : Bool) → p b ≡ t → or_else (when t b) (first_from p (suc b) n) ≡ Some k
          → (first_from p (suc b) n ≡ Some k
          → (suc b ≤ k) × (k < suc b + n) × (p k ≡ true))
          → (b ≤ k) × (k < b + suc n) × (p k ≡ true)
      go true f g more = let same : b ≡ k = cc in (omega arith, omega arith, rw (← same) f)
      go false f g more = let h = more g in (omega (arith, h.0), omega (arith, h.1), h.2)

-- a search through a list that has passed the first i elements
module _ {A B : Type 0} (f : A → Option B) (xs : List A) (i : ℕ)
    (so_far : first_in f (drop i xs) ≡ first_in f xs) where
  step : (x : A) → i < length xs → first_in f (drop i xs)
      ≡ or_else (f (slice_index_or xs i x)) (first_in f (drop (i + 1) xs))
  step x h = ap (first_in f) (drop-cons xs i x h) ∙ rw (add-one i) refl

  pub in_here : (x : A) (y : B) → i < length xs → f (slice_index_or xs i x) ≡ Some y
      → Some y ≡ first_in f xs
  in_here x y h e = sym (sym so_far ∙ step x h ∙ rw e refl)

  pub in_past : (x : A) → i < length xs → f (slice_index_or xs i x) ≡ None
      → first_in f (drop (i + 1) xs) ≡ first_in f xs
  in_past x h e = sym (sym so_far ∙ step x h ∙ rw e refl)

  pub in_ended : length xs ≤ i → None ≡ first_in f xs
  in_ended h = sym (sym so_far ∙ ap (first_in f) (drop_of_length-le xs h))

-- each number of a range that was tested passes
pub every_at : (p : ℕ → Bool) (b n k : ℕ) → every_from p b n ≡ true → b ≤ k
    → k < b + n → p k ≡ true
every_at p b zero k all h g = absurd (omega arith)
every_at p b (suc n) k all h g =
    let both = and_parts (p b) (every_from p (suc b) n) all in
    elim (cases_eq b k) [
      | inl e ↦ rw (← e) both.0
      | inr d ↦ every_at p (suc b) n k both.1 (omega arith) (omega arith)
    ]

-- a test whether the answer is this string
abbrev pub is_string : List ℕ → Option (List ℕ) → Bool
is_string s None = false
is_string s (Some t) = bytes_eq t s

pub is_string_true : (s : List ℕ) (o : Option (List ℕ)) → is_string s o ≡ true
    → o ≡ Some s
is_string_true s None e = cc
is_string_true s (Some t) e = ap Some ((bytes_eq-Decides t s).0 e)
