-- A character stands on a list where some place has it.
use Rattle.std.proofs.Common.{◌≡◌, ℕ, ◌<◌, ◌≤◌, Bool, true, false, eqb, List}
use Rattle.std.proofs.Common.{length, get_or, is_ok, Ok, Err, Result, MatchResult, sym, refl}
use Rattle.std.proofs.Common.{◌∙◌, inl, inr, arith}
use Rattle.std.specs.List.Sorted.{IsBinarySearchResult}
use Rattle.std.specs.Ordering.{nat_cmp}
use Rattle.std.proofs.lemmas.Bool.{cases_lt, eq-eqb, eqb-true}
use Rattle.std.proofs.lemmas.List.Sorted.{searched}
use Rattle.std.proofs.lemmas.List.Folds.{list_any_at, Any-from_list_any}
use Rattle.std.proofs.lemmas.List.{get_or_default}
use Rattle.layers.specs.CharacterList.{on_list, Rising}
use Rattle.layers.proofs.Risen.{never_falls}

-- the place of a listed character
pub place_of : (xs : List ℕ) (c : ℕ) → on_list xs c ≡ true
    → (k : ℕ) × (k < length xs) × (get_or xs k 0 ≡ c)
place_of xs c h =
    let a = Any-from_list_any (λ x. eqb x c) xs h in
    (a.0, a.2, get_or_default xs a.0 0 a.1 a.2 ∙ a.3 ∙ eqb-true a.1 c a.4)

-- what stands at a place is listed
pub listed_at : (xs : List ℕ) (k : ℕ) → k < length xs → on_list xs (get_or xs k 0) ≡ true
listed_at xs k h = list_any_at (λ x. eqb x (get_or xs k 0)) xs k 0 h (eq-eqb _ _ refl)

-- a search of numbers that rise finds what is listed
pub listed_by_search : (xs : List ℕ) (c : ℕ) → Rising xs → (r : Result ℕ ℕ)
    → IsBinarySearchResult (λ y. nat_cmp y c) xs r → (b : Bool) → b ≡ is_ok r
    → b ≡ on_list xs c
listed_by_search xs c up r h b e = e ∙ go r (searched xs c r h (never_falls xs up))
  where
    absent : (i : ℕ) → ((k : ℕ) → k < i → get_or xs k 0 < c)
        → ((k : ℕ) → i ≤ k → k < length xs → c < get_or xs k 0) → (o : Bool)
        → on_list xs c ≡ o → false ≡ o
    absent i low high false e = refl
    absent i low high true e = let p = place_of xs c e in elim (cases_lt p.0 i) [
      | inl g ↦ absurd (omega (arith, low p.0 g, p.2))
      | inr g ↦ absurd (omega (arith, high p.0 g p.1, p.2))
    ]

    go : (r : Result ℕ ℕ)
        → MatchResult r (λ i. (i < length xs) × (get_or xs i 0 ≡ c)) (λ i. (i ≤ length xs)
        × ((k : ℕ) → k < i → get_or xs k 0 < c)
        × ((k : ℕ) → i ≤ k → k < length xs → c < get_or xs k 0))
        → is_ok r ≡ on_list xs c
    go (Ok i) f = sym (rw f.1 at (listed_at xs i f.0))
    go (Err i) f = absent i f.1 f.2 (on_list xs c) refl
