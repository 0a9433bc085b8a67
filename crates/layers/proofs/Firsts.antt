-- What `find` gives in numbers that rise: the smallest that passes.
use Rattle.std.proofs.Common.{◌≡◌, ℕ, ◌<◌, true, false, List, length, Some, None}
use Rattle.std.proofs.Common.{Option, MatchOption, arith}
use Rattle.std.specs.List.{AllWithin, HoldsAt}
use Rattle.charset.specs.Meaning.{Codings}
use Rattle.layers.specs.CharacterList.{required, on_list, Rising, Complete}
use Rattle.layers.specs.Filled.{FirstMissing, FirstUncoded, AllCoded}
use Rattle.layers.proofs.Listed.{place_of, listed_at}
use Rattle.layers.proofs.Required.{required_rising}
use Rattle.layers.proofs.Risen.{earlier}

-- the first of xs is r, where each either passes or fails
abbrev pub IsFirst : (Passes Fails : ℕ → Type 0) → List ℕ → Option ℕ → Type 0
IsFirst Passes Fails xs r =
    MatchOption r (AllWithin Fails xs 0 (length xs))
    (λ c. Passes c × (i : ℕ) × (i < length xs) × HoldsAt (λ y. y ≡ c) xs i
    × AllWithin Fails xs 0 i)

module _ (Passes Fails : ℕ → Type 0) (xs : List ℕ) where
  failing : AllWithin Fails xs 0 (length xs) → (d : ℕ) → on_list xs d ≡ true → Fails d
  failing f d l = let p = place_of xs d l in rw p.2 at (f p.0 0 (omega arith) p.1)

  failing_below : Rising xs → (c i : ℕ) → i < length xs → HoldsAt (λ y. y ≡ c) xs i
      → AllWithin Fails xs 0 i → (d : ℕ) → on_list xs d ≡ true → d < c → Fails d
  failing_below up c i h e f d l less =
      let p = place_of xs d l in rw p.2 at (f p.0 0 (omega arith)
      (earlier xs up p.0 i p.1 h (rw (p.2, e 0) less)))

  passing : (c i : ℕ) → i < length xs → HoldsAt (λ y. y ≡ c) xs i → on_list xs c ≡ true
  passing c i h e = rw (e 0) at (listed_at xs i h)

pub first_missing : (xs : List ℕ) (r : Option ℕ)
    → IsFirst (λ c. on_list xs c ≡ false) (λ c. on_list xs c ≡ true) required r
    → MatchOption r (Complete xs) (λ c. FirstMissing xs c)
first_missing xs None f =
    failing (λ c. on_list xs c ≡ false) (λ c. on_list xs c ≡ true) required f
first_missing xs (Some c) f = record {
  needed =
      passing (λ c. on_list xs c ≡ false) (λ c. on_list xs c ≡ true) required c f.1 f.2 f.3;
  absent = f.0;
  before =
      failing_below (λ c. on_list xs c ≡ false) (λ c. on_list xs c ≡ true) required
      required_rising
      c f.1 f.2 f.3 f.4;
}

pub first_uncoded : (k : Codings) (xs : List ℕ) → Rising xs → (r : Option ℕ)
    → IsFirst (λ c. k.string c ≡ None) (λ c. k.string c ≡ None → ⊥) xs r
    → MatchOption r (AllCoded k xs) (λ c. FirstUncoded k xs c)
first_uncoded k xs up None f =
    failing (λ c. k.string c ≡ None) (λ c. k.string c ≡ None → ⊥) xs f
first_uncoded k xs up (Some c) f = record {
  listed = passing (λ c. k.string c ≡ None) (λ c. k.string c ≡ None → ⊥) xs c f.1 f.2 f.3;
  uncoded = f.0;
  before =
      failing_below (λ c. k.string c ≡ None) (λ c. k.string c ≡ None
      → ⊥) xs up c f.1 f.2 f.3 f.4;
}
