-- What messages call a file.
use Rattle.std.specs.Prelude.{ℕ, List, codes, if◌then◌else◌}
use Rattle.std.specs.Str.{bytes_eq}

abbrev pub shown_name : List ℕ → List ℕ
shown_name file = if bytes_eq file (codes "-") then codes "standard input" else file
