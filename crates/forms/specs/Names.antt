-- The words for each form of page.
use Rattle.std.specs.Prelude.{ℕ, List, [], ◌∷◌, codes, Option, position, unwrap_or}
use Rattle.std.specs.Prelude.{slice_get, option_and_then}
use Rattle.std.specs.List.{list_any}
use Rattle.std.specs.Str.{bytes_eq}
use Rattle.roll.specs.declared.page.Form.{Form}
use Rattle.roll.specs.Forms.{form_number}

-- of each form, from 0 on, its number and its name
abbrev pub form_words : List (List (List ℕ))
form_words =
    (codes "0" ∷ codes "picture" ∷ [])
    ∷ (codes "1" ∷ codes "iso6937" ∷ [])
    ∷ (codes "2" ∷ codes "iso6937-7bit" ∷ [])
    ∷ (codes "3" ∷ codes "iso6937-7bit-parity" ∷ [])
    ∷ (codes "4" ∷ codes "iso8859-16" ∷ [])
    ∷ (codes "5" ∷ codes "sami" ∷ [])
    ∷ (codes "6" ∷ codes "utf8" ∷ [])
    ∷ (codes "7" ∷ codes "iso6937-basic" ∷ [])
    ∷ []

-- the form among whose words a word stands
abbrev pub form_of_word : List ℕ → Option ℕ
form_of_word word = position (list_any (bytes_eq word)) form_words

-- the name of a form of text
abbrev pub name_of : Form → List ℕ
name_of f =
    unwrap_or (option_and_then (λ words. slice_get words 1) (slice_get form_words (form_number f)))
    []
