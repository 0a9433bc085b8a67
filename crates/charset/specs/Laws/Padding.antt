-- A byte string comes back out of its places, and goes back into them.
use Rattle.std.specs.Prelude.{◌≡◌, ℕ, List, length, take}
use Rattle.std.proofs.Common.{arith, length-take-le, take-append-drop}
use Rattle.charset.specs.Padding.{Padded, padded}

pub size_back : (places : List ℕ) (n : ℕ) → Padded places n → length (take n places) ≡ n
size_back places n h = length-take-le n places (omega (arith, h.few, h.four))

pub places_back : (places : List ℕ) (n : ℕ) → Padded places n
    → padded (take n places) ≡ places
places_back places n h = rw (size_back places n h, ← h.zeros) (take-append-drop n places)
