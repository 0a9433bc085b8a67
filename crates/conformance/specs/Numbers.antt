-- Bytes as a number.
use Rattle.std.specs.Prelude.{ℕ, ◌+◌, ◌*◌, ◌%◌, ◌^◌, List, fold}

-- the highest first; of more than four bytes the last four
abbrev pub number_of : List ℕ → ℕ
number_of bs = fold (λ n b. (256 * n + b) % 2 ^ 32) 0 bs
