-- A roll, seen as its bytes.
use Rattle.std.specs.Prelude.{◌≡◌, ℕ, List}
use Rattle.roll.specs.declared.roll.Roll.{Roll}
use Rattle.roll.specs.Opened.{Accepted}

abbrev pub bytes_of : Roll → List ℕ
bytes_of roll = roll.index.bytes.now

-- the roll is these bytes, and they keep every rule
abbrev pub IsRoll : List ℕ → Roll → Type 0
IsRoll b roll = (bytes_of roll ≡ b) × Accepted b
