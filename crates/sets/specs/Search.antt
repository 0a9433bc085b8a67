-- Searches from the front.
use Rattle.std.specs.Prelude.{ℕ, zero, suc, Bool, true, cond, ◌&&◌, List, [], ◌∷◌, Some}
use Rattle.std.specs.Prelude.{None, Option}

abbrev pub when : {A : Type 0} → Bool → A → Option A
when b x = cond b (Some x) None

abbrev pub or_else : {A : Type 0} → Option A → Option A → Option A
or_else None o = o
or_else (Some x) o = Some x

-- the first answer that an element gives
abbrev pub first_in : {A B : Type 0} → (A → Option B) → List A → Option B
first_in f [] = None
first_in f (x ∷ xs) = or_else (f x) (first_in f xs)

-- the first of the n numbers from b on that passes a test
unfoldable pub first_from : (ℕ → Bool) → ℕ → ℕ → Option ℕ
first_from p b zero = None
first_from p b (suc n) = or_else (when (p b) b) (first_from p (suc b) n)

-- each of the n numbers from b on passes a test
abbrev pub every_from : (ℕ → Bool) → ℕ → ℕ → Bool
every_from p b zero = true
every_from p b (suc n) = p b && every_from p (suc b) n
