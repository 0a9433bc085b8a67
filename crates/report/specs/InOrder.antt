-- What is made of the first places, one behind the other.
use Rattle.std.specs.Prelude.{◌≡◌, ℕ, zero, suc, List, [], ◌++◌}

-- a list that has for each place, from 0, a part of which P holds
abbrev pub InOrder : {X : Type 0} → (ℕ → List X → Type 0) → ℕ → List X → Type 0
InOrder P zero out = out ≡ []
InOrder {X} P (suc k) out =
    (front part : List X) × InOrder P k front × P k part × (out ≡ front ++ part)
