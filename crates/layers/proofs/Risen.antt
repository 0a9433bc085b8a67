-- Numbers that rise.
use Rattle.std.proofs.Common.{◌≡◌, ℕ, ◌+◌, ◌-◌, ◌<◌, ◌≤◌, true, ◌&&◌}
use Rattle.std.proofs.Common.{◌||◌, eqb, ltb, leb, List, length, get_or, inl, inr, arith}
use Rattle.std.proofs.lemmas.Bool.{cases_eq, cases_lt}
use Rattle.std.proofs.lemmas.Bool.Decides.{nat_tests}
use Rattle.std.specs.List.Sorted.{IsStrictlyIncreasing}
use Rattle.std.proofs.lemmas.List.Kept.{AllPairs-from_increasing}
use Rattle.layers.specs.CharacterList.{Rising}

-- each number is above the one before it
next : (xs : List ℕ) → Rising xs → IsStrictlyIncreasing xs
next xs up i h =
    let back : i + 1 - 1 ≡ i = omega arith in
    let u : leb (get_or xs (i + 1) 0) 0x10ffff &&
    (eqb (i + 1) 0 || ltb (get_or xs i 0) (get_or xs (i + 1) 0)) ≡ true =
    rw back at (up (i + 1) h) in
    grind (arith, nat_tests)

-- the number at a later place is the larger one
pub farther : (xs : List ℕ) → Rising xs → (j k : ℕ) → j < k → k < length xs
    → get_or xs j 0 < get_or xs k 0
farther xs up j k h g = AllPairs-from_increasing xs (next xs up) j k 0 h g

-- a smaller number stands at an earlier place
pub earlier : (xs : List ℕ) → Rising xs → (j k : ℕ) → j < length xs → k < length xs
    → get_or xs j 0 < get_or xs k 0 → j < k
earlier xs up j k h g less = elim (cases_lt j k) [
  | inl e ↦ e
  | inr d ↦ elim (cases_eq j k) [
    | inl e ↦ absurd (let same : get_or xs j 0 ≡ get_or xs k 0 = cc in omega arith)
    | inr n ↦ absurd (omega (arith, farther xs up k j (omega arith) h))
  ]
]

-- nowhere does a number come after a larger one
pub never_falls : (xs : List ℕ) → Rising xs → (i j : ℕ) → i ≤ j → j < length xs
    → get_or xs i 0 ≤ get_or xs j 0
never_falls xs up i j h g = elim (cases_lt i j) [
  | inl less ↦ omega (arith, farther xs up i j less g)
  | inr more ↦ let same : i ≡ j = omega arith in rw same (omega arith)
]
