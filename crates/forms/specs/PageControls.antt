-- The control characters of a page.
use Rattle.std.specs.Prelude.{Bool, true, false, List, ◌∷◌, ◌++◌, replicate}

-- of 00 to 1F just 09, 0A, 0C and 0D
abbrev pub page_controls : List Bool
page_controls =
    replicate 9 false ++ (true ∷ true ∷ false ∷ true ∷ true ∷ replicate 18 false)
