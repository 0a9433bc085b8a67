-- A byte string in four places, with 0 behind it.
use Rattle.std.specs.Prelude.{◌≡◌, ℕ, ◌-◌, ◌≤◌, List, ◌++◌, length, drop}
use Rattle.std.specs.Prelude.{replicate}

-- the first n places are the string, and the others hold 0
pub record Padded (places : List ℕ) (n : ℕ) : Type 0 where
  pub few : n ≤ 4
  pub four : length places ≡ 4
  pub zeros : drop n places ≡ replicate (4 - n) 0

-- the string in its places again
abbrev pub padded : List ℕ → List ℕ
padded s = s ++ replicate (4 - length s) 0
